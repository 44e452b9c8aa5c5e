pub mod Decimals
pub mod HexTexts
pub mod DigestTexts
