use Rattle.std.proofs.Common.{◌≡◌, ◌-◌, length, take}
use Rattle.aes.proofs.KeyLaws.{first_words}
use Rattle.aes.specs.KeyExpansion.{expanded, words}
use Rattle.aes.proofs.key_expansion.key_expansion.Given as goal

abbrev pub invariant-loop-i : goal.invariant-loop-i
invariant-loop-i l = (length l.words ≡ 60) × (take l.i l.words ≡ first_words l.key l.i)

abbrev pub invariant-loop-i-2 : goal.invariant-loop-i-2
invariant-loop-i-2 l = (length l.words ≡ 60) × (take l.i l.words ≡ expanded (l.i - 8) (words l.key))
