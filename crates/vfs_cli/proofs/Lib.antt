pub mod Seeds
pub mod RunLaws
pub mod EndLaws
pub mod ServingLaws
pub mod PlanLaws
pub mod WorkerLaws
pub mod Sending
