use Rattle.std.proofs.Common.{◌≡◌, ◌<◌, ◌+◌, ◌-◌, ◌*◌, ℕ, length, subst, sym, ap, ◌∙◌, arith, rules}
use borrow.Rule.Slice.PartMut.{put_mid}
use Rattle.generator.proofs.SameLaws.{Same-trans}
use Rattle.units.specs.Lengths.{begun, filled}
use Rattle.cover.proofs.StreamLaws.{Begun, begun_all, begun_more, begun_none}
use Rattle.cover.proofs.keystream.cover.Goals as goal
use Rattle.cover.proofs.keystream.cover.Goals.{then-left-gt0, else-left-gt0}

pub loop-index-init : goal.loop-index-init
loop-index-init g c =
    record {
      same = search rules;
      name = search rules;
      room = c.requires.room;
      out = begun_none (g.G.Generator.meaning c.args.generator.now) c.args.nonce.now.0 c.args.text.bytes.now c.args.out.now;
    }

pub loop-index-preserved : goal.loop-index-preserved
unfolding begun filled
loop-index-preserved g c =
    let mean = g.G.Generator.meaning in
    let m = mean c.args.generator.now in
    let n = c.args.nonce.now.0 in
    let inv = c.loop-index.invariant in
    let i = c.loop-index.index in
    let text = c.args.text.bytes.now in
    let sound = g.met.G.Generator.sound c.args.generator.now in
    let within : i < m.reach n = omega (arith, c.requires.within) in
    record {
      same = Same-trans m (mean c.loop-index.generator) (mean c.cover_block.new.generator) inv.same c.cover_block.ensures.same;
      name = search rules;
      room = c.cover_block.ensures.room;
      out =
          begun_more m (mean c.loop-index.generator) n text i (16 * i + 16) c.args.out.now c.loop-index.out c.cover_block.new.out sound inv.same c.requires.nonce within inv.out
          (omega arith)
          (omega arith)
          (omega arith)
          c.cover_block.ensures.out;
    }

pub returns-clause-out : goal.returns-clause-out
unfolding begun filled
returns-clause-out g c =
    let mean = g.G.Generator.meaning in
    let m = mean c.args.generator.now in
    let n = c.args.nonce.now.0 in
    let bits = c.args.text.bits.0 in
    let text = c.args.text.bytes.now in
    let old = c.args.out.now in
    let whole = c.from-whole.result in
    let inv = c.loop-index.invariant in
    let sound = g.met.G.Generator.sound c.args.generator.now in
    let before : Begun m n text whole old c.loop-index.out =
    subst (λ (i : ℕ). Begun m n text i old c.loop-index.out) (omega arith) inv.out
    in
    let long : length c.loop-index.out ≡ length text = omega (arith, c.requires.text, c.requires.out) in
    let all : Begun m n text (begun bits) old c.if-left-gt0.out =
    elim c.if-left-gt0.branch [
      | then-left-gt0 w ↦
          let last = w.cover_block-then-left-gt0 in
          let within : whole < m.reach n = omega (arith, c.requires.within, w.if-left-gt0.true) in
          let more =
          begun_more m (mean c.loop-index.generator) n text whole (length text) old c.loop-index.out last.new.out sound inv.same c.requires.nonce within before
          (omega (arith, w.if-left-gt0.true))
          (omega (arith, w.if-left-gt0.true))
          (omega arith)
          last.ensures.out
          in
          let out = w.out-is ∙ ap (λ (j : ℕ). put_mid (16 * whole) (j - 16 * whole) c.loop-index.out last.new.out) long in
          let one : whole + 1 ≡ begun bits = omega (arith, w.if-left-gt0.true) in
          subst (λ (i : ℕ). Begun m n text i old c.if-left-gt0.out) one (subst (Begun m n text (whole + 1) old) (sym out) more)
      | else-left-gt0 w ↦
          let none : whole ≡ begun bits = omega (arith, w.if-left-gt0.false) in
          subst (λ (i : ℕ). Begun m n text i old c.if-left-gt0.out) none (subst (Begun m n text whole old) (sym w.out-is) before)
    ]
    in
    c.clear_spare.ensures.after ∙ begun_all m n text bits old c.if-left-gt0.out all c.requires.out
