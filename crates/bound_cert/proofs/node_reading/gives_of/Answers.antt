use Rattle.std.proofs.Common.{◌∙◌, ap, map, take, arith, length-take}
use Rattle.bound_cert.specs.Documents.{give_entry}
use Rattle.bound_cert.proofs.Heads.{gives_front, all_gives, gives_lines, gives_many}
use Rattle.bound_cert.proofs.node_reading.gives_of.Goals as goal

pub slice_bounds-give_list-end : goal.slice_bounds-give_list-end
slice_bounds-give_list-end c = let f = gives_front c.args.count c.args.lines.now c.requires in omega (arith, f.within, length-take c.args.count c.args.lines.now)

pub give_list-requires : goal.give_list-requires
give_list-requires c = let f = gives_front c.args.count c.args.lines.now c.requires in all_gives (take c.args.count c.args.lines.now) f.each

pub returns-clause-within : goal.returns-clause-within
returns-clause-within c = (gives_front c.args.count c.args.lines.now c.requires).within

pub returns-clause-many : goal.returns-clause-many
returns-clause-many c = gives_many c.args.count c.args.lines.now c.new.result (gives_front c.args.count c.args.lines.now c.requires).within (ap (map give_entry) c.new.ensures ∙ c.in_ok-gives.ensures)

pub returns-clause-lines : goal.returns-clause-lines
returns-clause-lines c = gives_lines c.args.count c.args.lines.now c.new.result (ap (map give_entry) c.new.ensures ∙ c.in_ok-gives.ensures)

pub returns-clause-nodes : goal.returns-clause-nodes
returns-clause-nodes c = (gives_front c.args.count c.args.lines.now c.requires).behind
