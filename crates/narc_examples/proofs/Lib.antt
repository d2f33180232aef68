mod CoveredHead
mod LampState
