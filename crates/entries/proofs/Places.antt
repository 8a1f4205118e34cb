-- Laws of an accepted sheet, record by record: where the next one starts, what its body holds, and which entries it names.
use mathlib.Core.Path.{◌≡◌, refl, sym, ap, ◌∙◌}
use mathlib.Core.List.Memᴰ
use mathlib.Core.List.{List, [], ◌∷◌, ◌++◌, map, append_assoc, Memᴰ}
use mathlib.Core.Bool.{Bool, true, false}
use mathlib.Core.Logic.{⊎_elim}
use Prim.Native.Nat.{ℕ, zero, suc, ◌+◌, ◌-◌, ◌≤◌, ◌<◌}
use native.Mathlib.Omega.{arith}
use native.Mathlib.Nat.{zero-add, le_antisymm}
use native.Mathlib.Numerals.{add-one}
use lib.Dec.{ltb}
use lib.ListN.{length, take, drop, get_or, length-append, length-map, take-append-drop, get_or-eq_default}
use lib.Seq.{take-suc, drop-cons, length-take-le}
use Rattle.integer.proofs.Order.{le_or_lt}
use Rattle.low.specs.Bytes.{part}
use Rattle.low.specs.Read.{Read, found, refused, then_read}
use Rattle.low.proofs.Reading.{never}
use Rattle.types.specs.Edition.{Edition}
use Rattle.value.specs.Pattern.{pick}
use Rattle.value.specs.Refusals as No
use Rattle.operand.specs.declared.Instance.{Instance}
use Rattle.sheet.specs.declared.Kind.{Kind}
use Rattle.sheet.specs.declared.Kind.TheVariants as kind
use Rattle.sheet.specs.Tree.{Entry, entry_stage, names, names_of}
use Rattle.sheet.specs.Stage.{kind_of}
use Rattle.sheet.specs.Record.{read_record}
use Rattle.sheet.specs.Sheet.{Sheet, read_records, read_sheet}
use Rattle.sheet.specs.Accepted.{Body}
use Rattle.sheet.proofs.Records.{RecordThere, record_there, body_in}
use Rattle.sheet.proofs.Inverse.{literal_holds}
use Rattle.sheet.proofs.Accepted.{BodyHolds, a_setting, an_expression, holds}
use Rattle.sheet.proofs.Sheets.{one_more, sheet_good, begins_first}
use Rattle.sheet.proofs.Sound.{SoundEntry, entry_sound, names_below}
use Rattle.entries.specs.declared.Span.{Span}
use Rattle.std.specs.Prelude.{Some, None}
use Rattle.entries.specs.Entries.{entry_at, refs_of, is_setting, setting_type}
use Rattle.entries.specs.Records.{begins_in, span_in, span_of, place_after, setting_in, setting_of}
use Rattle.entries.specs.Inside.{At}

-- no more entries are accepted than there is room for
room_enough : (ed : Edition) (room : ℕ) (s : List ℕ) (d : List Entry) (at : ℕ) (es : List Entry) (z : ℕ) → read_records ed room s d at ≡ found es z → length es ≤ length d + room
unfolding read_records then_read
room_enough ed zero s d at es z = go (ltb at (length s))
  where
    go : (b : Bool) → pick b (refused No.TooManyEntries at) (found d at) ≡ found es z → length es ≤ length d + zero
    go true q = absurd (never 24 at es z q)
    go false q = let h : d ≡ es = cc in omega (arith, ap length h)
room_enough ed (suc room) s d at es z = go (room_enough ed room s) (ltb at (length s)) (read_record ed (map entry_stage d) s at)
  where
    go : ((d : List Entry) (at : ℕ) (es : List Entry) (z : ℕ) → read_records ed room s d at ≡ found es z → length es ≤ length d + room)
        → (b : Bool) (x : Read Entry) → pick b (then_read x (λ e n. read_records ed room s (d ++ e ∷ []) n)) (found d at) ≡ found es z → length es ≤ length d + suc room
    go ih true (found e n) q = omega (arith, ih (d ++ e ∷ []) n es z q, length-append d (e ∷ []))
    go ih true (refused k p) q = absurd (never k p es z q)
    go ih false x q = let h : d ≡ es = cc in omega (arith, ap length h)

-- ---- a sheet that was accepted
module _ (s : List ℕ) (sh : Sheet) (z : ℕ) (good : read_sheet s ≡ found sh z) where
  -- its records begin where it says
  pub at_begin : At s sh 0 sh.begins
  at_begin = record { within = omega arith; end = z; rest = sheet_good s sh z good }

  pub few : length sh.entries ≤ 128
  unfolding at_begin
  few = omega (arith, room_enough sh.edition 128 s [] sh.begins sh.entries z at_begin.rest)

  -- there is one such sheet
  pub same_sheet : (th : Sheet) (y : ℕ) → read_sheet s ≡ found th y → sh ≡ th
  same_sheet th y e = let h : found sh z ≡ found th y = sym good ∙ e in cc

module _ (s : List ℕ) (sh : Sheet) (k at : ℕ) (p : At s sh k at) (more : k < length sh.entries) where
  split : take k sh.entries ++ entry_at sh k ∷ drop (suc k) sh.entries ≡ sh.entries
  unfolding entry_at
  split = ap (λ (t : List Entry). take k sh.entries ++ t) (sym (drop-cons sh.entries k _ more)) ∙ take-append-drop k sh.entries

  step : (n : ℕ) × (read_record sh.edition (map entry_stage (take k sh.entries)) s at ≡ found (entry_at sh k) n)
      × (read_records sh.edition (128 - k - 1) s (take k sh.entries ++ entry_at sh k ∷ []) n
      ≡ found ((take k sh.entries ++ entry_at sh k ∷ []) ++ drop (suc k) sh.entries) p.end)
  step =
      one_more sh.edition (128 - k) s (take k sh.entries) at (entry_at sh k) (drop (suc k) sh.entries) p.end
      (p.rest ∙ ap (λ (t : List Entry). found t p.end) (sym split))

  after : At s sh (k + 1) step.0
  unfolding entry_at
  after =
      let e : 128 - (k + 1) ≡ 128 - k - 1 = omega arith in
      let t : take (k + 1) sh.entries ≡ take k sh.entries ++ entry_at sh k ∷ [] = ap (λ (j : ℕ). take j sh.entries) (add-one k) ∙ take-suc sh.entries k _ more in
      record {
        within = omega arith;
        end = p.end;
        rest =
            ap (λ (m : ℕ). read_records sh.edition m s (take (k + 1) sh.entries) step.0) e
            ∙ ap (λ (d : List Entry). read_records sh.edition (128 - k - 1) s d step.0) t ∙ step.2
            ∙ ap (λ (d : List Entry). found d p.end) (append_assoc (take k sh.entries) (entry_at sh k ∷ []) (drop (suc k) sh.entries) ∙ split);
      }

  stages_long : length (map entry_stage (take k sh.entries)) ≡ k
  stages_long = length-map (take k sh.entries) entry_stage ∙ length-take-le k sh.entries p.within

  kept : RecordThere sh.edition (map entry_stage (take k sh.entries)) s at (entry_at sh k) step.0
  kept = record_there sh.edition (map entry_stage (take k sh.entries)) s at (entry_at sh k) step.0 step.1

  pub entry_few : k < 128
  entry_few = omega (arith, room_enough sh.edition (128 - k) s (take k sh.entries) at sh.entries p.end p.rest, length-take-le k sh.entries p.within)

  -- the record there is the entry's: its body, and where the next one starts
  spanned : span_of s at ≡ record { stage = kept.stage; start = kept.start; len = kept.len; next = kept.start + kept.len }
  unfolding span_in
  spanned = ap (span_in at) kept.head

  body_there : Body sh.edition kept.stage (part s kept.start kept.len) (entry_at sh k)
  body_there = record { stages = map entry_stage (take k sh.entries); few = omega (arith, stages_long, entry_few); end = kept.len; read = kept.read }

  pub span_body : Body sh.edition (span_of s at).stage (part s (span_of s at).start (span_of s at).len) (entry_at sh k)
  span_body = rw spanned body_there

  pub span_after : At s sh (k + 1) (span_of s at).next
  span_after = let h : (span_of s at).next ≡ step.0 = ap (λ (r : Span). r.next) spanned ∙ sym kept.ends in rw h after

  -- what it says of a setting
  setting_said : (b : List ℕ) (g : ℕ) {stages : List ℕ} → BodyHolds sh.edition stages g b (entry_at sh k)
      → setting_in (kind_of g) b ≡ pick (is_setting (entry_at sh k)) (Some (setting_type (entry_at sh k))) None
  unfolding setting_in is_setting setting_type
  setting_said b g (a_setting q v x e f) =
      ap (λ (j : Kind). setting_in j b) q ∙ ap (λ (u : Instance). Some u.ty) (sym (literal_holds sh.edition true b 0 v (length b) e).value) ∙ rw x
  setting_said b g (an_expression q t x e) = ap (λ (j : Kind). setting_in j b) q ∙ rw x

  pub setting_there : setting_of s at ≡ pick (is_setting (entry_at sh k)) (Some (setting_type (entry_at sh k))) None
  setting_there = setting_said (part s (span_of s at).start (span_of s at).len) (span_of s at).stage (holds sh.edition span_body)

  -- the entry is one that the reader lets through after k others
  pub sound_there : SoundEntry sh.edition k (entry_at sh k)
  unfolding body_there
  sound_there =
      rw stages_long at
      (entry_sound sh.edition (map entry_stage (take k sh.entries)) kept.stage (part s kept.start kept.len) (entry_at sh k)
      (body_in s at kept.stage kept.start kept.len kept.head).2 (holds sh.edition body_there))

-- the place after k more records
pub place_there : (s : List ℕ) (sh : Sheet) (j at : ℕ) → At s sh j at → (k : ℕ) → j + k ≤ length sh.entries → At s sh (j + k) (place_after s at k)
unfolding place_after
place_there s sh j at p zero h = let e : j + 0 ≡ j = omega arith in rw e p
place_there s sh j at p (suc k) h =
    let e : j + suc k ≡ (j + k) + 1 = omega arith in
    rw e (span_after s sh (j + k) (place_after s at k) (place_there s sh j at p k (omega arith)) (omega arith))

-- past the last entry nothing is named
pub refs_past : (sh : Sheet) (k : ℕ) → length sh.entries ≤ k → refs_of sh k ≡ []
unfolding refs_of entry_at names_of names
refs_past sh k h = ap names_of (get_or-eq_default sh.entries _ h)

module _ (s : List ℕ) (sh : Sheet) (z : ℕ) (good : read_sheet s ≡ found sh z) where
  -- each entry is one that the reader lets through after those before it
  pub sound_at : (k : ℕ) → k < length sh.entries → SoundEntry sh.edition k (entry_at sh k)
  sound_at k h = sound_there s sh k (place_after s sh.begins k) (rw (zero-add k) at (place_there s sh 0 sh.begins (at_begin s sh z good) k (omega arith))) h

  -- each reference names an earlier entry
  pub earlier : (k j : ℕ) → Memᴰ j (refs_of sh k) → j < k
  unfolding refs_of
  earlier k j u =
      ⊎_elim
      (λ (h : length sh.entries ≤ k). absurd (Memᴰ.not-nil (rw (refs_past sh k h) at u)))
      (λ (h : k < length sh.entries). names_below (entry_at sh k) (sound_at k h) j u)
      (le_or_lt (length sh.entries) k)

-- ---- as the code goes
-- every sheet's records begin at its first byte
pub begins : (s : List ℕ) → 0 ≡ begins_in (read_sheet s)
unfolding begins_in
begins s = go (read_sheet s) refl
  where
    go : (x : Read Sheet) → read_sheet s ≡ x → 0 ≡ begins_in x
    go (found sh n) e = begins_first s sh n e
    go (refused k p) e = refl

pub place_none : (s : List ℕ) (from : ℕ) → from ≡ place_after s from 0
unfolding place_after
place_none s from = refl

pub place_more : (s : List ℕ) (from i at : ℕ) (r : Span) → at ≡ place_after s from i → r ≡ span_of s at → r.next ≡ place_after s from (i + 1)
unfolding place_after
place_more s from i at r e q = rw (add-one i) (ap (λ (x : Span). x.next) (q ∙ ap (span_of s) e))

pub place_all : (s : List ℕ) (from k at i : ℕ) → i ≤ k → k ≤ i → at ≡ place_after s from i → at ≡ place_after s from k
place_all s from k at i h g e = e ∙ ap (place_after s from) (le_antisymm h g)

module _ (s : List ℕ) (at : ℕ) (r : Span) (w : r ≡ span_of s at) (k : Kind) (e : k ≡ kind_of r.stage) where
  of_kind_lem : (b : List ℕ) → b ≡ part s r.start r.len → setting_in k b ≡ setting_of s at
  of_kind_lem b q = ap (λ (j : Kind). setting_in j b) e ∙ ap (setting_in (kind_of r.stage)) q ∙ ap (λ (x : Span). setting_in (kind_of x.stage) (part s x.start x.len)) w

  pub setting_read : k ≡ kind.Setting → (b : List ℕ) → b ≡ part s r.start r.len → (ty : ℕ) → ty ≡ get_or b 1 0 → Some ty ≡ setting_of s at
  unfolding setting_in
  setting_read q b f ty g = ap Some g ∙ ap (λ (j : Kind). setting_in j b) (sym q) ∙ of_kind_lem b f

  pub setting_none : k ≡ kind.Expression → None ≡ setting_of s at
  unfolding setting_in
  setting_none q = ap (λ (j : Kind). setting_in j (part s r.start r.len)) (sym q) ∙ of_kind_lem _ refl
