use Rattle.std.proofs.Common.{sym, ap, subst, ◌∙◌, not}
use Rattle.std.specs.Prelude.{MatchBool, if◌then◌else◌}
use Rattle.pg_object.specs.Enters.{StripsPage, Copies, mapped}
use Rattle.pg_object.proofs.GiveFacts.{strips_page, copies, copies_already, at_hand_shared, at_hand_uncopied, hand_some, same_lent, private_page, no_copy, some_bytes}
use Rattle.pg_object.proofs.give.write_to.Goals as goal

pub set_writable-requires : goal.set_writable-requires
set_writable-requires g c = at_hand_shared c.args.pages.now.cache c.args.regions.now c.args.region.now c.args.page c.requires.at_hand c.if-region.true

pub bytes-requires : goal.bytes-requires
bytes-requires g c =
    let none = no_copy c.args.regions.now c.args.region.now.id c.args.page c.copy.result (c.is_none.ensures ∙ ap not c.if-is_none.true) c.copy.ensures.none in
    record {
      inside = c.requires.inside;
      at_hand = hand_some c.args.pages.now.cache c.args.page (at_hand_uncopied c.args.pages.now.cache c.args.regions.now c.args.region.now c.args.page c.requires.at_hand none);
    }

pub make_copy-requires : goal.make_copy-requires
make_copy-requires g c = record {
  stands = private_page c.args.regions.now.regions c.args.region.now c.args.page c.requires.stands c.if-region.false;
  room = c.requires.copies;
  absent = no_copy c.args.regions.now c.args.region.now.id c.args.page c.copy.result (c.is_none.ensures ∙ ap not c.if-is_none.true) c.copy.ensures.none;
  whole = c.bytes.ensures.whole ∙ sym c.requires.size;
}

pub returns-then-region : goal.returns-then-region
returns-then-region g c = record {
  regions = λ bytes own.
      subst (λ b. MatchBool b (StripsPage c.args.regions.now c.args.page c.strip.new.self) (Copies c.args.regions.now c.args.region.now c.args.page bytes c.strip.new.self)) (sym c.if-region.true)
      (strips_page c.args.regions.now c.strip.new.self c.args.page c.strip.ensures.after c.strip.ensures.found c.strip.ensures.room c.strip.ensures.sound);
  marks = c.set_writable.ensures.marks
      ∙ ap (λ b. record c.args.pages.now { marks = if b then mapped c.args.page c.args.pages.now.marks else c.args.pages.now.marks }) (sym c.if-region.true);
  marked = c.set_writable.ensures.marked;
}

pub returns-then-is_none : goal.returns-then-is_none
returns-then-is_none g c =
    let none = no_copy c.args.regions.now c.args.region.now.id c.args.page c.copy.result (c.is_none.ensures ∙ ap not c.if-is_none.true) c.copy.ensures.none in
    record {
      regions = λ bytes own.
          let same = same_lent c.args.pages.now.cache c.args.page bytes c.bytes.result.now
          (at_hand_uncopied c.args.pages.now.cache c.args.regions.now c.args.region.now c.args.page c.requires.at_hand none) own c.bytes.ensures.bytes in
          subst (λ b. MatchBool b (StripsPage c.args.regions.now c.args.page c.make_copy.new.self) (Copies c.args.regions.now c.args.region.now c.args.page bytes c.make_copy.new.self)) (sym c.if-region.false)
          (subst (λ bs. Copies c.args.regions.now c.args.region.now c.args.page bs c.make_copy.new.self) (sym same)
          (copies c.args.regions.now c.make_copy.new.self c.args.region.now c.args.page c.bytes.result.now none c.make_copy.ensures.after c.make_copy.ensures.found c.make_copy.ensures.room c.make_copy.ensures.sound));
      marks = ap (λ b. record c.args.pages.now { marks = if b then mapped c.args.page c.args.pages.now.marks else c.args.pages.now.marks }) (sym c.if-region.false);
      marked = c.requires.marked;
    }

pub returns-else-is_none : goal.returns-else-is_none
returns-else-is_none g c = record {
  regions = λ bytes own.
      subst (λ b. MatchBool b (StripsPage c.args.regions.now c.args.page c.args.regions.now) (Copies c.args.regions.now c.args.region.now c.args.page bytes c.args.regions.now)) (sym c.if-region.false)
      (copies_already c.args.regions.now c.args.region.now c.args.page bytes
      (some_bytes c.args.regions.now c.args.region.now.id c.args.page c.copy.result (c.is_none.ensures ∙ ap not c.if-is_none.false) c.copy.ensures.found) c.copy.ensures.sound);
  marks = ap (λ b. record c.args.pages.now { marks = if b then mapped c.args.page c.args.pages.now.marks else c.args.pages.now.marks }) (sym c.if-region.false);
  marked = c.requires.marked;
}
