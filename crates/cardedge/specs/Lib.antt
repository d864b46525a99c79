pub mod CardEdge
