pub mod ItemsSoFar
pub mod PlanFacts
