use Rattle.replay.proofs.run.layers.Goals as goal

pub returns : goal.returns
returns c =
    record { nonces = c.laws.ensures; cover = c.laws-2.ensures; windows = c.laws-3.ensures; frames = c.laws-4.ensures }
