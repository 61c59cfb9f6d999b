pub mod CommandLemmas
pub mod PlanningLemmas
pub mod ReportLemmas
pub mod RunLemmas
