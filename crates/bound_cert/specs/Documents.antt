-- Documents and their texts.
use Rattle.std.specs.Prelude.{ℕ, List, [], ◌∷◌, ◌++◌, length, map, Option, Some, None}
use Rattle.std.specs.List.{flat_map}
use Rattle.bound_cert.specs.declared.multipliers.Give.{Give}
use Rattle.bound_cert.specs.declared.node_line.NodeLine.{NodeLine}
use Rattle.bound_cert.specs.declared.node_line.NodeLine.TheVariants as node
use Rattle.bound_cert.specs.declared.heading.Heading.{Heading}
use Rattle.bound_cert.specs.declared.heading.Pins.{Pins}
use Rattle.bound_cert.specs.declared.heading.Claimed.{Claimed}
use Rattle.bound_cert.specs.Lines.{Entry, Title, Span, Pinned, Answered, Planned, NoPlan, Bounded, NoBound, Branch, Low, High, Leaf, Give as GiveEntry, End}
use Rattle.bound_cert.specs.Grammar.{AreLines, text_of}

-- the lines of a node: one, and behind that of a leaf those of its gives
abbrev pub give_entry : Give → Entry
give_entry g = GiveEntry g.class g.file g.charge g.reward

abbrev pub node_entries : NodeLine → List Entry
node_entries (node.Branch file first second alpha beta) = Branch file first second alpha beta ∷ []
node_entries node.Low = Low ∷ []
node_entries node.High = High ∷ []
node_entries (node.Leaf m) = Leaf m.p m.q (length m.gives) ∷ map give_entry m.gives

-- the lines of a heading; without pins it is one of version 1
abbrev pub pins_entries : Option Pins → List Entry
pins_entries None = []
pins_entries (Some pins) = Pinned pins.go pins.stay ∷ []

abbrev pub version_of : Option Pins → ℕ
version_of None = 1
version_of (Some pins) = 2

abbrev pub plan_entry : Option Claimed → Entry
plan_entry None = NoPlan
plan_entry (Some claimed) = Planned claimed.set claimed.migrated claimed.replicated

abbrev pub bound_entry : Option ℕ → Entry
bound_entry None = NoBound
bound_entry (Some bound) = Bounded bound

abbrev pub heading_entries : Heading → List Entry
heading_entries h =
    Title (version_of h.pins) ∷ Span h.range.low h.range.high ∷ (pins_entries h.pins ++ Answered h.answer ∷ plan_entry h.plan ∷ bound_entry h.bound ∷ [])

-- the lines of a document
abbrev pub document_entries : Heading → List NodeLine → List Entry
document_entries h nodes = heading_entries h ++ (flat_map node_entries nodes ++ End ∷ [])

-- the lines of a document are lawful and stand where they may
abbrev pub IsDocument : Heading → List NodeLine → Type 0
IsDocument h nodes = AreLines (document_entries h nodes)

-- the one text of a document
abbrev pub document_text : Heading → List NodeLine → List ℕ
document_text h nodes = text_of (document_entries h nodes)
