use Rattle.std.proofs.Common.{◌++◌, ℕ, List, ap, ◌∙◌}
use Rattle.std.specs.List.{flat_map}
use Rattle.cs_directory.specs.declared.hash_page.HashPage.{HashPage}
use Rattle.cs_sign.specs.declared.fields.Field.{Field}
use Rattle.cs_sign.specs.Blobs.{field_bytes}
use Rattle.cs_sign.specs.Directory.{directory, special_hashes, code_hashes}
use Rattle.cs_sign.proofs.PieceFacts.{directory_joined}
use Rattle.cs_sign.proofs.code_directory.directory.Goals as goal

pub returns : goal.returns
unfolding directory
returns g c =
    let hash = g.D.Digester.hash in
    directory_joined _ _ _ _ _ _ _ _ _ _ c.in_ok-made.ensures.items
    (c.in_ok-put_fields.ensures ∙ ap (λ (fields : List Field). c.in_ok-made.made.items ++ flat_map field_bytes fields) c.header.ensures)
    (c.in_ok-extend_from_slice.ensures.items ∙ ap (λ (bytes : List ℕ). c.put_fields.new.out.items ++ bytes) c.ident.ensures)
    c.in_ok-extend_from_slice-2.ensures.items
    (c.in_ok-put_specials.ensures ∙ ap (λ (slots : ℕ). c.extend_from_slice-2.new.self.items ++ special_hashes hash c.args.parts.now slots) c.special_slots.ensures.slots)
    (c.in_ok-put_codes.ensures ∙ ap (λ (page : HashPage). c.put_specials.new.out.items ++ code_hashes hash page c.args.body.now) c.page.ensures)
