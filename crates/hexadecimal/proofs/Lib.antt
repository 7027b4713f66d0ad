pub mod HexLaws
