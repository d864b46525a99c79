pub mod KeptEdge
