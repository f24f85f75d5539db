pub mod KeptParts
