-- What the code's holes, reports and names stand for.
use Rattle.std.specs.Prelude.{ℕ, List, ◌∷◌, map, reverse}
use Rattle.qtt_term.specs.View.{term}
use Rattle.qtt_rules.specs.Report.{Report}
use Rattle.qtt_holes.specs.declared.hole.Hole as code_hole
use Rattle.qtt_holes.specs.declared.hole.Seen as code_seen
use Rattle.qtt_holes.specs.declared.reports.Report as code_report
use Rattle.qtt_holes.specs.declared.sight.Names as code_names
use Rattle.qtt_holes.specs.declared.sight.Names.TheVariants as names
use Rattle.qtt_holes.specs.Hole.{Seen, Hole}

abbrev pub seen : code_seen.Seen → Seen
seen x = record { name = x.name; type = term x.ty; stands = term x.stands; left = x.left }

abbrev pub hole : code_hole.Hole → Hole
hole h = record { name = h.name; span = h.span; goal = term h.goal; depth = h.depth; seen = map seen h.seen.items }

abbrev pub report_of : code_report.Report → Report
report_of r = record { variable = r.variable; name = r.name; place = r.place }

-- the innermost first
abbrev pub names_of : code_names.Names → List (List ℕ)
names_of (names.Outer ns) = reverse ns.now
names_of (names.Inner' p ns n) = n.now ∷ names_of ns
names_of (names.Unnamed' p ns) = names_of ns
