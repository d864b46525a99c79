pub mod KeptChip
