-- The discipline of tapes: each opened number is written and closed only after it was opened and before it was
-- closed, and is closed at most once.
use Rattle.std.specs.Prelude.{◌≡◌, ℕ, zero, suc, List, [], ◌∷◌, ◌++◌, Option, Some, None, Bool, true, false, cond}
use Rattle.qtt_term.specs.Contraction.{chain}
use Rattle.qtt_term.specs.FullRun.{Event}

-- which numbers are open, with this one, which is open, set to closed
abbrev pub closing : ℕ → List Bool → Option (List Bool)
closing h [] = None
closing zero (b ∷ bs) = cond b (Some (false ∷ bs)) None
closing (suc h) (b ∷ bs) = chain (closing h bs) (λ cs. Some (b ∷ cs))

abbrev pub after_event : Event → List Bool → Option (List Bool)
after_event (Event.line s) bs = Some bs
after_event (Event.opened s) bs = Some (bs ++ true ∷ [])
after_event (Event.wrote h s) bs = chain (closing h bs) (λ cs. Some bs)
after_event (Event.closed_tape h) bs = closing h bs

-- which numbers are open after these events; none where they break the discipline
abbrev pub open_after : List Bool → List Event → Option (List Bool)
open_after bs [] = Some bs
open_after bs (e ∷ es) = chain (after_event e bs) (λ cs. open_after cs es)

abbrev pub AllClosed : List Bool → Type 0
AllClosed [] = Unit {0}
AllClosed (b ∷ bs) = (b ≡ false) × AllClosed bs

-- the events keep the discipline
abbrev pub Disciplined : List Event → Type 0
Disciplined es = (bs : List Bool) × (open_after [] es ≡ Some bs)

-- they keep it, and each opened number is closed, so exactly once
abbrev pub ClosedOnce : List Event → Type 0
ClosedOnce es = (bs : List Bool) × (open_after [] es ≡ Some bs) × AllClosed bs
