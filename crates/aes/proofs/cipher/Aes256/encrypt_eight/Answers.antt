use Rattle.std.proofs.Common.{rules, get_or}
use Rattle.aes.specs.RoundKeys.{key_of}
use Rattle.aes.proofs.CipherLaws.{first_round, key_at, last_round, next_round}
use Rattle.aes.proofs.cipher.Aes256.encrypt_eight.Goals as goal

pub loop-round-init : goal.loop-round-init
loop-round-init c =
    let self = c.args.self.now in
    let d = c.index-self-0.result in
    first_round self.key c.args.blocks.now (key_of (get_or self.round_keys 0 d)) c.from_blocks.result c.add_to-q.result
    (key_at self.key self.round_keys 0 d self.expanded (search rules)) c.from_blocks.ensures c.add_to-q.ensures

pub loop-round-preserved : goal.loop-round-preserved
loop-round-preserved c =
    let self = c.args.self.now in
    let l = c.loop-round in
    let d = c.index-self-round.result in
    next_round self.key c.args.blocks.now l.round (key_of (get_or self.round_keys l.round d)) l.q
    c.sub_bytes.result c.shift_rows.result c.mix_columns.result c.add_to-q-in-loop-round.result (search rules)
    (key_at self.key self.round_keys l.round d self.expanded (search rules))
    l.invariant c.sub_bytes.ensures.value c.shift_rows.ensures c.mix_columns.ensures c.add_to-q-in-loop-round.ensures

pub returns : goal.returns
returns c =
    let self = c.args.self.now in
    let l = c.loop-round in
    let d = c.index-self-14.result in
    last_round self.key c.args.blocks.now l.round (key_of (get_or self.round_keys 14 d)) l.q
    c.sub_bytes-2.result c.shift_rows-2.result c.add_to-last.result c.to_blocks.result (search rules)
    (key_at self.key self.round_keys 14 d self.expanded (search rules))
    l.invariant c.sub_bytes-2.ensures.value c.shift_rows-2.ensures c.add_to-last.ensures c.to_blocks.ensures
