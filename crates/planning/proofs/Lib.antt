pub mod PlanKept
