pub mod Unbroken
mod ComparedLines
