use Rattle.std.proofs.Common.{◌≡◌, ◌<◌, ◌≤◌, ℕ, List, ◌++◌, length, ap, ◌∙◌}
use Rattle.std.specs.Int.{div_ceil}
use Rattle.pg_digest.specs.declared.kinds.HashKind.TheVariants.{Sha256}
use Rattle.cs_directory.specs.HashPages.{bytes_of}
use Rattle.cs_verify.specs.Pages.{hash_page}
use Rattle.cs_sign.proofs.PieceFacts.{piece_added, pieces_done}
use Rattle.cs_sign.proofs.code_directory.put_codes.Goals as goal

pub loop-number-preserved : goal.loop-number-preserved
loop-number-preserved g c =
    let hash = g.D.Digester.hash in
    let body = c.args.body.now in
    let lt : c.loop-number.number < div_ceil (length body) (bytes_of c.args.page) = rw (c.div_ceil-number-end.ensures, c.bytes-size.ensures.bytes) at c.loop-number-test.true in
    let page : c.hash_page.result.now ≡ hash_page (bytes_of c.args.page) body c.loop-number.number =
    c.hash_page.ensures ∙ ap (λ (size : ℕ). hash_page size body c.loop-number.number) c.bytes-size.ensures.bytes in
    piece_added (λ (number : ℕ). hash Sha256 (hash_page (bytes_of c.args.page) body number)) _ _ _ _ _ lt c.loop-number.invariant
    (c.in_ok-put_digest.ensures.put ∙ ap (λ (bytes : List ℕ). c.loop-number.out.items ++ hash Sha256 bytes) page)

pub returns : goal.returns
returns g c =
    let hash = g.D.Digester.hash in
    let body = c.args.body.now in
    let past : div_ceil (length body) (bytes_of c.args.page) ≤ c.loop-number.number = rw (c.div_ceil-number-end.ensures, c.bytes-size.ensures.bytes) at c.loop-number-test.false in
    pieces_done (λ (number : ℕ). hash Sha256 (hash_page (bytes_of c.args.page) body number)) _ _ _ _ past c.loop-number.invariant
