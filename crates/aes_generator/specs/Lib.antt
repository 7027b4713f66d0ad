pub mod AesGenerator
