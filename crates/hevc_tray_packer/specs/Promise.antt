-- What the entry point promises, of what its code answers and leaves: the definition's answer; and accepted with n, (iv)'s reader reads the first n bytes of the
-- room back as the lists say, block for block; refused, the room is as it was. Assumes nothing.
use Prim.Native.Nat.{ℕ, zero, suc, ◌≤◌}
use Rattle.std.specs.Prelude.{◌≡◌, List, length, take, Result, Ok, Err}
use Rattle.std.proofs.Math.Path.{refl, ap}
use Rattle.std.proofs.Common.{sym, subst, ◌∙◌, arith}
use Rattle.cabac.specs.Numbers.{accepted, refused, ◌or_else◌}
use Rattle.cabac.specs.NumberLaws.{or_else_zero}
use Rattle.hevc_tray.specs.Rows.{records_of, rows_refusal}
use Rattle.packing.specs.Entries.{BinsPacked, not_packed, pack_tree}
use Rattle.packing.proofs.EntriesLaws.{accepts_is, refuses_is}
use Rattle.packer.specs.IntoCode.{packing_says}
use Rattle.hevc_packer.specs.Tray.{blocks_s, count_refusal, tray_checks, pack_tray}
use Rattle.hevc_packer.specs.TrayLaws.{count_few, tray_is_read, TrayAgain}
use Rattle.hevc_tray_packer.specs.declared.entries.TrayPacking.{TrayPacking}
use Rattle.hevc_tray_packer.specs.Rows.{TrayPacked, row_checks, packed_by, pack_rows}
use Rattle.hevc_tray_packer.specs.TrayAgain.{TrayRows, again_rows, records_long}

abbrev pub tray_says : TrayPacking → List ℕ → TrayPacked
tray_says r room = record { done = r.done; packed = packing_says r.packing room }

abbrev pub TrayBack : List ℕ → List ℕ → List (List ℕ) → List ℕ → List ℕ → Result ℕ ℕ → List ℕ → Type 0
TrayBack contexts stats rows list room (Ok n) room' = TrayRows (take n room') contexts stats rows list
TrayBack contexts stats rows list room (Err n) room' = room' ≡ room

module _ (contexts stats : List ℕ) (rows : List (List ℕ)) (list room : List ℕ) where
  -- behind both checks it is the tray's tree packed
  pub tree_is : (pack_rows contexts stats rows list room).packed ≡ pack_tree (row_checks contexts stats rows) (blocks_s (records_of rows) stats) contexts list room
  unfolding pack_rows packed_by ◌or_else◌ pack_tray pack_tree
  tree_is = go (rows_refusal rows)
    where
      go : (n : ℕ) → packed_by n contexts stats (records_of rows) list room ≡ pack_tree (n or_else tray_checks contexts stats (records_of rows)) (blocks_s (records_of rows) stats) contexts list room
      go zero = refl
      go (suc n) = refl

  -- where the rows' form passes it is the tray's own
  pub tray_is : 0 ≡ rows_refusal rows → (pack_rows contexts stats rows list room).packed ≡ pack_tray contexts stats (records_of rows) list room
  unfolding pack_rows
  tray_is q = ap (λ n. packed_by n contexts stats (records_of rows) list room) (sym q) ∙ unfold packed_by in refl

  rows_refused : (n : ℕ) → (pack_rows contexts stats rows list room).packed.answer ≡ refused n → (pack_rows contexts stats rows list room).packed ≡ not_packed n room
  rows_refused n q =
      tree_is ∙ refuses_is (blocks_s (records_of rows) stats) contexts list room n (row_checks contexts stats rows) (ap (λ (x : BinsPacked). x.answer) (sym tree_is) ∙ q)

  -- The theorem: whatever is accepted, with the number n, the first n bytes of the room are read back by (iv)'s reader as the lists say.
  pub rows_are_read : (n : ℕ) → (pack_rows contexts stats rows list room).packed.answer ≡ accepted n → TrayRows (take n (pack_rows contexts stats rows list room).packed.room) contexts stats rows list
  rows_are_read n q =
      let k = accepts_is (blocks_s (records_of rows) stats) contexts list room n (row_checks contexts stats rows) (ap (λ (x : BinsPacked). x.answer) (sym tree_is) ∙ q) in
      let a = or_else_zero (rows_refusal rows) (tray_checks contexts stats (records_of rows)) k.fine in
      let b = or_else_zero (count_refusal (records_of rows)) _ a.1 in
      let few : length rows ≤ 256 = omega (arith, count_few (records_of rows) b.0, records_long rows) in
      let t = tray_is a.0 in
      let w = tray_is_read contexts stats (records_of rows) list room n (ap (λ (x : BinsPacked). x.answer) (sym t) ∙ q) in
      again_rows _ contexts stats rows list a.0 few (subst (λ (x : BinsPacked). TrayAgain (take n x.room) contexts stats (records_of rows) list) (sym t) w)

  pub promised : (r : TrayPacking) (done : ℕ) (p : Result ℕ ℕ) (room' : List ℕ) → r ≡ record { done = done; packing = p }
      → tray_says (record { done = done; packing = p }) room' ≡ pack_rows contexts stats rows list room
      → (tray_says r room' ≡ pack_rows contexts stats rows list room) × TrayBack contexts stats rows list room r.packing room'
  promised r done p room' e q =
      subst (λ (z : TrayPacking). (tray_says z room' ≡ pack_rows contexts stats rows list room) × TrayBack contexts stats rows list room z.packing room') (sym e)
      (q, back p (ap (λ (z : TrayPacked). z.packed) q))
    where
      back : (p : Result ℕ ℕ) → packing_says p room' ≡ (pack_rows contexts stats rows list room).packed → TrayBack contexts stats rows list room p room'
      back (Ok n) q =
          subst (λ (l : List ℕ). TrayRows (take n l) contexts stats rows list) (sym (ap (λ (z : BinsPacked). z.room) q)) (rows_are_read n (ap (λ (z : BinsPacked). z.answer) (sym q)))
      back (Err n) q = ap (λ (z : BinsPacked). z.room) (q ∙ rows_refused n (ap (λ (z : BinsPacked). z.answer) (sym q)))
