pub mod Laws
pub mod Plans
pub mod Raised
pub mod Nodes
pub mod Paths
pub mod PlanExamples
