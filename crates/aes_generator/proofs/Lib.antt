pub mod AesGeneratorLaws
