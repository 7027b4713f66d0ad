use Rattle.recording.proofs.ReadingLaws.{recording_stands}
use Rattle.recording.proofs.reading.laws.Goals as goal

pub returns : goal.returns
returns c = recording_stands
