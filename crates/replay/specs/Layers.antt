-- What the layers below promise, for the proofs of the laws.
use Rattle.nonces.specs.Nonces.{NoncesStand}
use Rattle.cover.specs.Laws.{CoverLaws}
use Rattle.windows.specs.Windows.{WindowTells}
use Rattle.frames.specs.Frames.{FramesStand}

pub record Layers : Type 0 where
  pub nonces : NoncesStand
  pub cover : CoverLaws
  pub windows : WindowTells
  pub frames : FramesStand
