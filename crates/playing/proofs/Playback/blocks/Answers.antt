use Rattle.std.proofs.Common.{◌≡◌, List, ℕ, ap, ◌∙◌, sym}
use Rattle.playing.specs.Playing.{blocks_under, readable}
use Rattle.playing.proofs.PlayingLaws.{same_nonce}
use Rattle.playing.proofs.Playback.blocks.Goals as goal

pub returns-clause-value : goal.returns-clause-value
returns-clause-value c =
    let xs = c.args.self.now.bytes.now in
    let last = c.in-Some.last.0 in
    let found : c.in-Some.found.now ≡ blocks_under last (readable xs) = c.args.self.now.found (c.in-Some.last, c.in-Some.found) c.in-Some.is in
    let same : last ≡ c.args.nonce.now.0 = same_nonce last c.args.nonce.now.0 (sym c.eq.ensures ∙ c.if-eq.true) in
    found ∙ ap (λ (n : List ℕ). blocks_under n (readable xs)) same
