-- Pairs of terms that are still to be compared.
use Rattle.std.specs.Prelude.{◌≡◌, ℕ, ◌<◌, ◌≤◌, List, [], ◌∷◌, ◌++◌}
use Rattle.qtt_term.specs.Signature.{Env}
use Rattle.qtt_term.specs.Answers.{answer}
use Rattle.qtt_term.specs.Question.{Item, weight_of, within_count}
use Rattle.qtt_envconv.specs.declared.route.Route as route_code
use Rattle.qtt_envconv.specs.declared.route.Route.TheVariants as way
use Rattle.qtt_envconv.specs.declared.comparing.Pair.{Pair}
use Rattle.qtt_envconv.specs.declared.comparing.Round.{Round}
use Rattle.qtt_envconv.specs.declared.comparing.Round.TheVariants as round
use Rattle.qtt_envconv.specs.Nodes.{node, IsReady}
use Rattle.qtt_envconv.specs.Pairs.{pair}

-- the numbers of the components on the way to a place, the first one first
abbrev pub path : route_code.Route → List ℕ
path way.Whole = []
path (way.Below' k p above) = path above ++ k ∷ []

abbrev pub item_of : Pair → Item
item_of p = pair (path p.route) (node p.left) (node p.right)

-- the last pair is the first to be compared
abbrev pub pairs : List Pair → List Item
pairs [] = []
pairs (p ∷ ps) = pairs ps ++ item_of p ∷ []

abbrev pub PairsReady : Env → List Pair → Type 0
PairsReady E [] = Unit {0}
PairsReady E (p ∷ ps) = IsReady E p.left × IsReady E p.right × PairsReady E ps

-- the answer, or pairs that have it within fewer contractions
abbrev pub RoundTo : Env → ℕ → List Item → Round → Type 0
RoundTo E n is (round.Answered a) = answer a ≡ within_count E n is
RoundTo E n is (round.Contracted fewer ps) =
    (within_count E fewer (pairs ps.items) ≡ within_count E n is) × (fewer < n) × PairsReady E ps.items

-- the answer, or pairs that have it within as many contractions or fewer, and are lighter where none was made
abbrev pub TakesTo : Env → ℕ → List Item → Round → Type 0
TakesTo E n is (round.Answered a) = answer a ≡ within_count E n is
TakesTo E n is (round.Contracted fewer ps) =
    (within_count E fewer (pairs ps.items) ≡ within_count E n is) × (fewer ≤ n) ×
    (fewer ≡ n → weight_of (pairs ps.items) < weight_of is) × PairsReady E ps.items
