use Rattle.std.proofs.Common.{◌-◌, ◌*◌, ◌/◌, map, length, take, drop, rules, ap₂, arith}
use Rattle.std.proofs.lemmas.List.{take_rest}
use Rattle.std.proofs.lemmas.Iterator.{YieldsList-from_slice, YieldsList-from_map_by}
use Rattle.std.proofs.lemmas.Iterator.Consumers.{YieldsList-from_first}
use Rattle.units.specs.Spare.{cleared}
use Rattle.field.specs.declared.blocks.Block.{Block}
use Rattle.field.specs.declared.iter.Blocks.{Blocks}
use Rattle.field.specs.Blocks.{blocks, polynomial}
use Rattle.field.specs.Folds.{fold}
use Rattle.field.proofs.BlockLaws.{blocks_chunks}
use Rattle.field.proofs.FoldLaws.{folded-append, fold_stands}
use Rattle.field.proofs.folds.fold.Goals as goal

pub returns : goal.returns
unfolding fold
returns c =
    let bits = c.args.input.bits.0 in
    let bytes = c.args.input.bytes.now in
    let full = c.min-full.result in
    let front = take full c.as_chunks.result.0.now in
    let back = blocks (cleared (bits - full * 128) (drop (full * 16) bytes)) in
    let first =
    c.fold_blocks-v.ensures (map polynomial front)
    (YieldsList-from_map_by _ (λ (b : Block). b.0) polynomial (YieldsList-from_slice front (search rules)) (search rules) (λ x r q k. search rules)).runs
    in
    let rest =
    c.fold_blocks.ensures back
    (YieldsList-from_first (λ (b : Block). b.0) (λ (s : Blocks). blocks (cleared s.0.bits.0 s.0.bytes.now)) back (ap₂ (λ n xs. blocks (cleared n xs)) (omega arith) (take_rest bytes (full * 16)))).runs
    in
    let both = folded-append c.args.h.0 c.args.v.0 (map polynomial front) back in
    let chunks = blocks_chunks full (length bytes / 16) bits bytes (omega arith) (omega arith) (omega arith) in
    let taken = c.as_chunks.ensures.front in
    record { value = cc; stands = fold_stands c.laws.ensures }
