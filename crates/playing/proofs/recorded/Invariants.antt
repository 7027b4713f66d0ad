use Rattle.std.proofs.Common.{◌≡◌}
use Rattle.recording.specs.Reading.{ahead}
use Rattle.playing.specs.Playing.{blocks_under, readable}
use Rattle.playing.proofs.PlayingLaws.{entries}
use Rattle.playing.proofs.recorded.Given as goal

abbrev pub invariant-loop-record : goal.invariant-loop-record
invariant-loop-record l = blocks_under l.nonce.0 (entries (ahead l.record-iterator.reader.bytes.now l.record-iterator.reader.offset)) ≡ blocks_under l.nonce.0 (readable l.bytes)
