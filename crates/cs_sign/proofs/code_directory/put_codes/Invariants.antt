use Rattle.std.proofs.Common.{◌≡◌, ◌++◌, ◌-◌, length}
use Rattle.std.specs.List.{flat_map, range_with_len}
use Rattle.std.specs.Int.{div_ceil}
use Rattle.pg_digest.specs.declared.kinds.HashKind.TheVariants.{Sha256}
use Rattle.cs_directory.specs.HashPages.{bytes_of}
use Rattle.cs_verify.specs.Pages.{hash_page}
use Rattle.cs_sign.proofs.code_directory.put_codes.Given as goal

abbrev pub invariant-loop-number : goal.invariant-loop-number
invariant-loop-number g l =
    let all = div_ceil (length l.body) (bytes_of l.fn.page) in
    l.out.items ++ flat_map (λ number. g.D.Digester.hash Sha256 (hash_page (bytes_of l.fn.page) l.body number)) (range_with_len l.number (all - l.number))
    ≡ l.fn.out.items ++ flat_map (λ number. g.D.Digester.hash Sha256 (hash_page (bytes_of l.fn.page) l.body number)) (range_with_len 0 all)
