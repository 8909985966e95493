pub mod CircuitRules
