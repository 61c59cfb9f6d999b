use Rattle.std.proofs.Common.{inl, sym, ◌∙◌, arith}
use Rattle.volume_index.proofs.IndexReads.{held_by_place, lacking_by_place}
use Rattle.site_core.proofs.Searching.{place_within, list_there, all_copied_of, found_of}
use Rattle.site_core.proofs.search.lacking_of.Goals as goal

pub returns-then-is_some-clause-finds : goal.returns-then-is_some-clause-finds
returns-then-is_some-clause-finds c = inl (held_by_place c.args.target.now.shape.files c.args.name.now c.find.result c.find.ensures (sym c.is_some.ensures ∙ c.if-is_some.true))

pub file_chunks-list-requires : goal.file_chunks-list-requires
file_chunks-list-requires c = place_within c.args.source.now.shape.files c.args.name.now c.find-2.result c.in-Some.file c.find-2.ensures c.in-Some.is

pub returns-then-place-list-clause-finds : goal.returns-then-place-list-clause-finds
returns-then-place-list-clause-finds c = found_of c.args.source.now.shape c.args.target.now.shape c.args.name.now c.file_chunks-list.result.now c.args.from c.min-begin.result c.first_lacking-place.result
    (list_there c.args.source.now.shape c.args.name.now c.find-2.result c.in-Some.file c.file_chunks-list.result.now c.find-2.ensures c.in-Some.is c.file_chunks-list.ensures.list)
    c.requires (omega (arith, c.min-begin.ensures)) c.first_lacking-place.ensures.held
    (lacking_by_place c.args.target.now.shape.files c.args.name.now c.find.result c.find.ensures (sym c.is_some.ensures ∙ c.if-is_some.false))
    c.if-place-list.true (c.first_lacking-place.ensures.lacks c.if-place-list.true)

pub returns-clause-finds : goal.returns-clause-finds
returns-clause-finds c = all_copied_of c.args.source.now.shape c.args.target.now.shape c.args.name.now c.file_chunks-list.result.now c.args.from c.min-begin.result c.first_lacking-place.result
    (list_there c.args.source.now.shape c.args.name.now c.find-2.result c.in-Some.file c.file_chunks-list.result.now c.find-2.ensures c.in-Some.is c.file_chunks-list.ensures.list)
    c.requires (omega (arith, c.min-begin.ensures)) c.first_lacking-place.ensures.held c.if-place-list.false
