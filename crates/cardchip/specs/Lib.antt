pub mod CardChip
