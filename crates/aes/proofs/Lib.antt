pub mod ExampleLaws
pub mod KeyLaws
pub mod StepLaws
pub mod CipherLaws
pub mod BlockLaws
