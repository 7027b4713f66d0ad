pub mod BitLaws
pub mod PlaneLaws
pub mod ExchangeLaws
pub mod LaneLaws
pub mod SpreadLaws
