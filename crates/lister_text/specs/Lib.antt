pub mod Ascii
pub mod Decimal
pub mod Lines
pub mod Printed
