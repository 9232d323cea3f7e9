mod PlanLemmas
mod StandingLemmas
mod FiredLemmas
mod EnterLemmas
