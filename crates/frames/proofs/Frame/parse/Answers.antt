use Rattle.std.proofs.Common.{◌≡◌, None, refl, arith, slice_index}
use Rattle.std.proofs.lemmas.Bool.Decides.{nat_tests}
use Rattle.frames.specs.Frames.{Parts, frame_length, layout_refusal, parts}
use Rattle.frames.proofs.FrameLaws.{same_parts, taken}
use Rattle.frames.proofs.Frame.parse.Goals as goal

pub returns : goal.returns
unfolding parts frame_length
returns c =
    let f = c.args.bytes.now in
    let read : Parts = record {
      line = slice_index f 2;
      size = slice_index f 3;
      count = c.four_at.result;
      aad_bits = c.two_at-aad_bits.result.0;
      bits = c.two_at-bits.result.0;
      aad = c.split_at-2.result.0.now;
      ciphertext = c.split_at-3.result.0.now;
      tag = c.split_at-3.result.1.now;
    } in
    let accepted : layout_refusal f ≡ None = grind (arith, nat_tests) in
    let same : read ≡ parts f = same_parts read (parts f) refl refl (cc) (cc) (cc) (cc) (cc) (cc) in
    let all = taken f read (λ k. omega (arith, c.type_inv.bytes k)) accepted same in
    record { parts = all.0; fits = all.1; within = grind (arith, nat_tests) }
