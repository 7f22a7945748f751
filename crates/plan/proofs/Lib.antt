-- The laws that reading a plan stands on.
mod PlanTexts
