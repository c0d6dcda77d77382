-- Pairs of terms that are still to be compared.
use Rattle.std.specs.Prelude.{◌≡◌, ℕ, ◌<◌, ◌≤◌, List, [], ◌∷◌, ◌++◌}
use Rattle.qtt_term.specs.Signature.{Env}
use Rattle.qtt_term.specs.Answers.{answer}
use Rattle.qtt_term.specs.Question.{Item, weight_of, within_count}
use Rattle.qtt_term.specs.View.{term}
use Rattle.qtt_conv.specs.declared.comparing.Pair.{Pair}
use Rattle.qtt_conv.specs.declared.comparing.Round.{Round}
use Rattle.qtt_conv.specs.declared.comparing.Round.TheVariants as round
use Rattle.qtt_conv.specs.Pairs.{pair}

abbrev pub item_of : Pair → Item
item_of p = pair p.path.items (term p.left) (term p.right)

-- the last pair is the first to be compared
abbrev pub pairs : List Pair → List Item
pairs [] = []
pairs (p ∷ ps) = pairs ps ++ item_of p ∷ []

-- the answer, or pairs that have it within fewer contractions
abbrev pub RoundTo : Env → ℕ → List Item → Round → Type 0
RoundTo E n is (round.Answered a) = answer a ≡ within_count E n is
RoundTo E n is (round.Contracted fewer ps) = (within_count E fewer (pairs ps.items) ≡ within_count E n is) × (fewer < n)

-- the answer, or pairs that have it within as many contractions or fewer, and are lighter where none was made
abbrev pub TakesTo : Env → ℕ → List Item → Round → Type 0
TakesTo E n is (round.Answered a) = answer a ≡ within_count E n is
TakesTo E n is (round.Contracted fewer ps) =
    (within_count E fewer (pairs ps.items) ≡ within_count E n is) × (fewer ≤ n) ×
    (fewer ≡ n → weight_of (pairs ps.items) < weight_of is)
