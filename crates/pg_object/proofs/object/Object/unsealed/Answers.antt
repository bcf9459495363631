use Rattle.std.proofs.Common.{◌≡◌, ℕ, List, [], ◌∷◌, true, false, Option, None, Some, sym, ap, subst, ◌∙◌, IsTrue}
use Rattle.std.specs.Prelude.{find}
use Rattle.std.specs.Option.{option_copied, option_map}
use Rattle.cs_policy.specs.declared.denial.Denial.{Denial}
use Rattle.cs_policy.specs.declared.denial.Denial.TheVariants.{BeyondLimit, WritableShared}
use Rattle.cs_blob.specs.Signature.{Signature}
use Rattle.pg_plain.specs.PlainFile.{Attached, writer}
use Rattle.pg_plain.specs.Covers.{Fits, covers, is_below_limit}
use Rattle.pg_plain.specs.Verdict.{first_denial, unsigned, beyond_limit, writable_shared}
use Rattle.pg_object.specs.Object.{ObjectNow, object_of, seen, cover_of}
use Rattle.pg_object.proofs.RuleFacts.{lent, cover_covers, cover_fits, rules_past, rules_beyond}
use Rattle.pg_object.proofs.object.Object.unsealed.Goals as goal

pub is_below_limit-requires : goal.is_below_limit-requires
is_below_limit-requires g c =
    let now = object_of c.self.inside.pages c.self.inside.regions c.self.inside.blobs c.self.inside.length c.self.inside.layout in
    let size : c.page_size-size.result ≡ now.pages.cache.pager.page_size = c.page_size-size.ensures.size in
    let cover : option_copied c.covering.result ≡ option_map (λ (a : Attached). a.signature) (cover_of now c.args.page) =
    c.covering.ensures
    ∙ ap (λ (bs : List Attached). option_map (λ (a : Attached). a.signature) (find (λ (a : Attached). covers c.page_size-size.result a.signature c.args.page) bs)) c.list.ensures.value
    ∙ ap (λ s. option_map (λ (a : Attached). a.signature) (find (λ (a : Attached). covers s a.signature c.args.page) now.blobs)) size in
    let one = lent c.covering.result (cover_of now c.args.page) cover c.in-Some.blob c.in-Some.is in
    record {
      size = c.page_size-size.ensures.known;
      covers = subst (λ s. IsTrue (covers s c.in-Some.blob.now c.args.page)) (sym size)
          (subst (λ (b : Signature). IsTrue (covers now.pages.cache.pager.page_size b c.args.page)) one.1.1 (cover_covers now c.args.page one.0 one.1.0));
      fits = subst (λ s. Fits s c.in-Some.blob.now) (sym size)
          (subst (λ (b : Signature). Fits now.pages.cache.pager.page_size b) one.1.1 (cover_fits g.D.Digester.hash now c.args.page one.0 c.self.invariant one.1.0));
    }

pub returns-then-not-is_below_limit : goal.returns-then-not-is_below_limit
returns-then-not-is_below_limit g c =
    let now = object_of c.self.inside.pages c.self.inside.regions c.self.inside.blobs c.self.inside.length c.self.inside.layout in
    let size : c.page_size-size.result ≡ now.pages.cache.pager.page_size = c.page_size-size.ensures.size in
    let cover : option_copied c.covering.result ≡ option_map (λ (a : Attached). a.signature) (cover_of now c.args.page) =
    c.covering.ensures
    ∙ ap (λ (bs : List Attached). option_map (λ (a : Attached). a.signature) (find (λ (a : Attached). covers c.page_size-size.result a.signature c.args.page) bs)) c.list.ensures.value
    ∙ ap (λ s. option_map (λ (a : Attached). a.signature) (find (λ (a : Attached). covers s a.signature c.args.page) now.blobs)) size in
    let one = lent c.covering.result (cover_of now c.args.page) cover c.in-Some.blob c.in-Some.is in
    let below : is_below_limit now.pages.cache.pager.page_size one.0.signature c.args.page ≡ false =
    ap (λ (b : Signature). is_below_limit now.pages.cache.pager.page_size b c.args.page) one.1.1 ∙ ap (λ s. is_below_limit s c.in-Some.blob.now c.args.page) (sym size)
    ∙ sym c.is_below_limit.ensures ∙ c.if-not-is_below_limit.true in
    subst (λ (n : ObjectNow). Some (BeyondLimit c.args.page) ≡ first_denial (unsigned (seen n []) c.args.page ∷ beyond_limit (seen n []) c.args.page ∷ writable_shared (seen n []) c.args.page ∷ [])) c.self.view_is
    (rules_beyond now c.args.page one.0 one.1.0 below)

pub returns-in-Some-writer : goal.returns-in-Some-writer
returns-in-Some-writer g c =
    let now = object_of c.self.inside.pages c.self.inside.regions c.self.inside.blobs c.self.inside.length c.self.inside.layout in
    let size : c.page_size-size.result ≡ now.pages.cache.pager.page_size = c.page_size-size.ensures.size in
    let cover : option_copied c.covering.result ≡ option_map (λ (a : Attached). a.signature) (cover_of now c.args.page) =
    c.covering.ensures
    ∙ ap (λ (bs : List Attached). option_map (λ (a : Attached). a.signature) (find (λ (a : Attached). covers c.page_size-size.result a.signature c.args.page) bs)) c.list.ensures.value
    ∙ ap (λ s. option_map (λ (a : Attached). a.signature) (find (λ (a : Attached). covers s a.signature c.args.page) now.blobs)) size in
    let one = lent c.covering.result (cover_of now c.args.page) cover c.in-Some.blob c.in-Some.is in
    let below : is_below_limit now.pages.cache.pager.page_size one.0.signature c.args.page ≡ true =
    ap (λ (b : Signature). is_below_limit now.pages.cache.pager.page_size b c.args.page) one.1.1 ∙ ap (λ s. is_below_limit s c.in-Some.blob.now c.args.page) (sym size)
    ∙ sym c.is_below_limit.ensures ∙ c.if-not-is_below_limit.false in
    let is : c.writer.result ≡ Some c.in-Some-writer.region = c.in-Some-writer.is in
    let answer = ap (option_map (λ (id : ℕ). WritableShared c.args.page id)) is in
    subst (λ (d : Option Denial). d ≡ first_denial (unsigned (seen c.args.self.now []) c.args.page ∷ beyond_limit (seen c.args.self.now []) c.args.page ∷ writable_shared (seen c.args.self.now []) c.args.page ∷ [])) answer
    (subst (λ (n : ObjectNow). option_map (λ (id : ℕ). WritableShared c.args.page id) c.writer.result ≡ first_denial (unsigned (seen n []) c.args.page ∷ beyond_limit (seen n []) c.args.page ∷ writable_shared (seen n []) c.args.page ∷ [])) c.self.view_is
    (rules_past now c.args.page one.0 c.writer.result one.1.0 below
    (sym (c.writer.ensures ∙ ap (λ (n : ObjectNow). writer (seen n []) c.args.page) (sym c.self.view_is)))))

pub returns-in-None : goal.returns-in-None
returns-in-None g c =
    let now = object_of c.self.inside.pages c.self.inside.regions c.self.inside.blobs c.self.inside.length c.self.inside.layout in
    let size : c.page_size-size.result ≡ now.pages.cache.pager.page_size = c.page_size-size.ensures.size in
    let cover : option_copied c.covering.result ≡ option_map (λ (a : Attached). a.signature) (cover_of now c.args.page) =
    c.covering.ensures
    ∙ ap (λ (bs : List Attached). option_map (λ (a : Attached). a.signature) (find (λ (a : Attached). covers c.page_size-size.result a.signature c.args.page) bs)) c.list.ensures.value
    ∙ ap (λ s. option_map (λ (a : Attached). a.signature) (find (λ (a : Attached). covers s a.signature c.args.page) now.blobs)) size in
    let one = lent c.covering.result (cover_of now c.args.page) cover c.in-Some.blob c.in-Some.is in
    let below : is_below_limit now.pages.cache.pager.page_size one.0.signature c.args.page ≡ true =
    ap (λ (b : Signature). is_below_limit now.pages.cache.pager.page_size b c.args.page) one.1.1 ∙ ap (λ s. is_below_limit s c.in-Some.blob.now c.args.page) (sym size)
    ∙ sym c.is_below_limit.ensures ∙ c.if-not-is_below_limit.false in
    let is : c.writer.result ≡ None = c.in-None.is in
    let answer = ap (option_map (λ (id : ℕ). WritableShared c.args.page id)) is in
    subst (λ (d : Option Denial). d ≡ first_denial (unsigned (seen c.args.self.now []) c.args.page ∷ beyond_limit (seen c.args.self.now []) c.args.page ∷ writable_shared (seen c.args.self.now []) c.args.page ∷ [])) answer
    (subst (λ (n : ObjectNow). option_map (λ (id : ℕ). WritableShared c.args.page id) c.writer.result ≡ first_denial (unsigned (seen n []) c.args.page ∷ beyond_limit (seen n []) c.args.page ∷ writable_shared (seen n []) c.args.page ∷ [])) c.self.view_is
    (rules_past now c.args.page one.0 c.writer.result one.1.0 below
    (sym (c.writer.ensures ∙ ap (λ (n : ObjectNow). writer (seen n []) c.args.page) (sym c.self.view_is)))))
