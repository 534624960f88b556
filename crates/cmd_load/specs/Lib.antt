pub mod Faults
pub mod Loading
pub mod PlanFaults
pub mod Schedule
pub mod ScriptFaults
pub mod Scripts
