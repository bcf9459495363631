-- The numbers of a code directory.
use Rattle.std.specs.Prelude.{ℕ}
use Rattle.pg_digest.specs.declared.kinds.HashKind.{HashKind}
use Rattle.cs_directory.specs.declared.hash_page.HashPage.{HashPage}

-- What a directory says, without its bytes. Offsets, the length and the limit count bytes. The flags are the
-- whole field.
pub record Fields : Type 0 where
  pub length : ℕ
  pub version : ℕ
  pub flags : ℕ
  pub hash_offset : ℕ
  pub ident_offset : ℕ
  pub special_slots : ℕ
  pub code_slots : ℕ
  pub limit : ℕ
  pub kind : HashKind
  pub page : HashPage
