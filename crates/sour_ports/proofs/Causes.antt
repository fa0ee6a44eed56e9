-- The cause of a fault, over several calls.
use Rattle.std.proofs.Common.{ℕ, ◌≤◌, inl, inr, arith}
use Rattle.sour_ports.specs.Cause.{HasCause}

-- a cause of a later call is one of all the calls
pub HasCause-earlier : {earlier before after : ℕ} → earlier ≤ before → HasCause before after → HasCause earlier after
HasCause-earlier le (inl rose) = inl (omega arith)
HasCause-earlier le (inr last) = inr last
