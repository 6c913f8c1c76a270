-- Of some reads over an honest host, one that failed could not be served by what is held.
use Rattle.std.proofs.Common.{true, ◌≡◌, ◌<◌, ◌+◌, List, [], ◌∷◌, Option, Some, None, refl, subst, arith}
use Rattle.host_traits.specs.declared.calls.Call.{Call}
use Rattle.host_traits.specs.declared.calls.Said.{Said}
use Rattle.host_traits.specs.Held.{Held, serve}
use Rattle.host_traits.specs.Told.{Made, Serves, ServesAll, failures_of, one_failure}
use Rattle.host_traits.specs.Did.{Each, reads}
use Rattle.guest_rules.proofs.Holding.{IsReading, keeps_one}

pub finds_refused : (F : Call → Type 0) (own : List Made) (h k : Held) → ((call : Call) → F call → IsReading call) → ServesAll true h own k → Each (reads F) own → 0 < failures_of own
    → (call : Call) × F call × (serve h call [] ≡ None)
finds_refused F [] h k read s each some = absurd (omega (arith, some))
finds_refused F (m ∷ own) h k read s each some =
    by_came m.came s.1 some (λ same lt. finds_refused F own h k read (subst (λ z. ServesAll true z own k) same s.2) each.1 lt) where
      by_came : (came : Option Said) → Serves true h m.call m.given came s.0 → 0 < one_failure came + failures_of own
          → (s.0 ≡ h → 0 < failures_of own → (call : Call) × F call × (serve h call [] ≡ None)) → (call : Call) × F call × (serve h call [] ≡ None)
      by_came None one lt later = (m.call, each.0.0, subst (λ g. serve h m.call g ≡ None) each.0.1 (one.1 refl))
      by_came (Some said) one lt later = later (keeps_one true h s.0 m.call m.given (Some said) (read m.call each.0.0) one) (omega (arith, lt))
