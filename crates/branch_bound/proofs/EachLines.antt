-- One visited node more has its line.
use Rattle.std.proofs.Common.{ℕ, ◌+◌, ◌<◌, List, [], ◌∷◌, ◌++◌, length, get_or, take, sym, subst}
use Rattle.std.proofs.lemmas.List.{take_more}
use Rattle.seed_model.specs.declared.node.Node.{Node}
use Rattle.seed_model.specs.Tables.{TableValue}
use Rattle.bound_cert.specs.declared.node_line.NodeLine.{NodeLine}
use Rattle.branch_bound.specs.declared.entry.Entry.{Entry}
use Rattle.branch_bound.specs.declared.visits.Visit.{Visit}
use Rattle.branch_bound.specs.Ended.{EachLine, AreVisited}
use Rattle.branch_bound.specs.Entries.{entry_at, AreNodes}
use Rattle.branch_bound.specs.Written.{IsLineOf}

module _ (table : TableValue) (es : List Entry) where
  each_push : (nodes : ℕ → Node) (xs : List Visit) (ls : List NodeLine) (v : Visit) (line : NodeLine) → EachLine table es nodes xs ls
      → IsLineOf table v.cut (nodes v.number) (entry_at es v.number).file (entry_at es v.number).finding line → EachLine table es nodes (xs ++ v ∷ []) (ls ++ line ∷ [])
  each_push nodes [] [] v line h l = (l, tt)
  each_push nodes [] (y ∷ ls) v line h l = absurd h
  each_push nodes (x ∷ xs) [] v line h l = absurd h
  each_push nodes (x ∷ xs) (y ∷ ls) v line h l = (h.0, each_push nodes xs ls v line h.1 l)

  pub visited_more : (root : Node) (visited : List Visit) (i : ℕ) (d : Visit) (ls : List NodeLine) (line : NodeLine) → i < length visited → AreVisited table root es (take i visited) ls
      → ((nodes : ℕ → Node) → AreNodes root es nodes
      → IsLineOf table (get_or visited i d).cut (nodes (get_or visited i d).number) (entry_at es (get_or visited i d).number).file (entry_at es (get_or visited i d).number).finding line)
      → AreVisited table root es (take (i + 1) visited) (ls ++ line ∷ [])
  visited_more root visited i d ls line lt h l = λ nodes a.
      subst (λ z. EachLine table es nodes z (ls ++ line ∷ [])) (sym (take_more visited i d lt)) (each_push nodes (take i visited) ls (get_or visited i d) line (h nodes a) (l nodes a))
