use Rattle.std.proofs.Common.{arith}
use Rattle.playing.proofs.PlayingLaws.{playback_stands, sound}
use Rattle.playing.proofs.Playback.new.Goals as goal

pub invariant_of-result-clause-sound : goal.invariant_of-result-clause-sound
invariant_of-result-clause-sound c = sound c.laws.ensures c.args.bytes.now (λ k. omega (arith, c.type_inv.bytes k))

pub returns-clause-stands : goal.returns-clause-stands
returns-clause-stands c = playback_stands c.laws.ensures
