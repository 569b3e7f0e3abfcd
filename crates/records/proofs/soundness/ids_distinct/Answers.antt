-- An id that is marked was seen before; one that is not gets its mark, and the ids of the records left differ as before.
use Rattle.std.proofs.Common.{rules, arith, ◌≡◌, ◌∙◌, sym, ap, ℕ, List, length}
use Rattle.std.specs.Slice.Iter.{chunks_exact_rest}
use Rattle.std.proofs.lemmas.List.{length-set}
use Rattle.ints.specs.Whole.{up}
use Rattle.records.specs.Records.{all_records}
use Rattle.records.specs.Needs.{mark_bytes, is_marked, with_mark}
use Rattle.records.proofs.RecordsTurnLaws.{no_record}
use Rattle.records.proofs.SoundnessIdsLaws.{still_distinct, id_turn, distinct-at_first, seen_twice, seen_once, all_seen}
use Rattle.records.proofs.soundness.ids_distinct.Goals as goal

pub loop-w-init : goal.loop-w-init
loop-w-init c =
    let e : chunks_exact_rest c.into_iter-w-iterator.result ≡ c.args.words.now = search rules in
    record {
      sevens = search rules;
      long = search rules;
      ranged = search rules;
      left = rw e (distinct-at_first mark_bytes (all_records c.args.words.now));
    }

pub overflow_cast-id : goal.overflow_cast-id
overflow_cast-id c =
    let s = c.in-Some.ensures.steps in
    let r = c.read_from-id.result in
    let t = id_turn r _ _ _ c.read_from-id.ensures s.1.0 (s.1.1 ∙ c.loop-w.invariant.sevens) c.loop-w.invariant.ranged (search rules) in
    search rules

pub is_marked-requires : goal.is_marked-requires
is_marked-requires c =
    let s = c.in-Some.ensures.steps in
    let r = c.read_from-id.result in
    let t = id_turn r _ _ _ c.read_from-id.ensures s.1.0 (s.1.1 ∙ c.loop-w.invariant.sevens) c.loop-w.invariant.ranged (search rules) in
    omega arith

pub returns-then-is_marked : goal.returns-then-is_marked
returns-then-is_marked c =
    let s = c.in-Some.ensures.steps in
    let r = c.read_from-id.result in
    let t = id_turn r _ _ _ c.read_from-id.ensures s.1.0 (s.1.1 ∙ c.loop-w.invariant.sevens) c.loop-w.invariant.ranged (search rules) in
    let marked = sym (c.is_marked.ensures ∙ ap (is_marked c.loop-w.marks) t.index) ∙ c.if-is_marked.true in
    sym (c.loop-w.invariant.left ∙ ap (still_distinct c.loop-w.marks) t.next ∙ seen_twice c.loop-w.marks r _ marked)

pub mark-requires : goal.mark-requires
mark-requires c =
    let s = c.in-Some.ensures.steps in
    let r = c.read_from-id.result in
    let t = id_turn r _ _ _ c.read_from-id.ensures s.1.0 (s.1.1 ∙ c.loop-w.invariant.sevens) c.loop-w.invariant.ranged (search rules) in
    omega arith

pub loop-w-preserved : goal.loop-w-preserved
loop-w-preserved c =
    let s = c.in-Some.ensures.steps in
    let r = c.read_from-id.result in
    let t = id_turn r _ _ _ c.read_from-id.ensures s.1.0 (s.1.1 ∙ c.loop-w.invariant.sevens) c.loop-w.invariant.ranged (search rules) in
    let unmarked = sym (c.is_marked.ensures ∙ ap (is_marked c.loop-w.marks) t.index) ∙ c.if-is_marked.false in
    let set_there : c.mark.new.marks ≡ with_mark c.loop-w.marks (up r.report.id) = c.mark.ensures ∙ ap (with_mark c.loop-w.marks) t.index in
    record {
      sevens = s.0 ∙ c.loop-w.invariant.sevens;
      long = ap length set_there ∙ simp length-set c.loop-w.invariant.long;
      ranged = t.rest;
      left = c.loop-w.invariant.left ∙ ap (still_distinct c.loop-w.marks) t.next
          ∙ seen_once c.loop-w.marks r _ unmarked c.loop-w.invariant.long t.ranged t.rest
          ∙ ap (λ (marks : List ℕ). still_distinct marks (all_records (chunks_exact_rest c.next.new.self))) (sym set_there);
    }

pub returns : goal.returns
returns c =
    let few = no_record _ (omega (arith, c.in-None.ensures.steps.1.0, c.loop-w.invariant.sevens)) in
    sym (c.loop-w.invariant.left ∙ ap (still_distinct c.loop-w.marks) few ∙ all_seen c.loop-w.marks)
