-- The entries of a run that were taken so far.
use Rattle.std.proofs.Common.{◌≡◌, ◌≢◌, ℕ, ◌<◌, ◌≤◌, ◌^◌, Bool, true, false, not, nat_eq, nat_le, nat_lt, eq-eqb, ◌&&◌, List, [], ◌∷◌, ◌++◌, length, Option, Some, None, Err, refl, sym, ap, subst, ◌∙◌, append_assoc, append-nil, arith}
use Rattle.std.specs.Prelude.{All, IsTrue}
use Rattle.std.proofs.lemmas.Bool.{leb-true, eqb-true}
use Rattle.std.proofs.lemmas.List.Elements.{All-nil, All-cons, All-append}
use Rattle.std.proofs.lemmas.List.Folds.{list_all-append}
use Rattle.ckd_track.specs.declared.layout.TheConstants.{WRITES_OF_RUN}
use Rattle.xrc_edge.specs.Causes.{Rose}
use Rattle.tod_stamp.specs.declared.stamp.Stamp.{Stamp}
use Rattle.ckd_track.specs.declared.write.Write.{Write}
use Rattle.ckd_track.specs.declared.write.Kind.{Kind}
use Rattle.ckd_track.specs.declared.write.Kind.TheVariants.{Update, Format, Whole}
use Rattle.ckd_track.specs.declared.write.Cause.TheVariants.{ReadFault, BadTrace, Crowded}
use Rattle.ckd_track.specs.Effects.{is_kind, keeps_rules}
use Rattle.write_trace.specs.declared.header.VolumeHead.{VolumeHead}
use Rattle.write_trace.specs.declared.entry.Entry.{Entry}
use Rattle.write_trace.specs.declared.entry.Entry.TheVariants.{Written, Idle}
use Rattle.write_trace.specs.Headers.{is_track_of}
use Rattle.write_trace.specs.Entries.{stamp_of, is_entry, is_stamp_from}
use Rattle.write_trace.specs.Writes.{writes_of, IsWriteTo}
use Rattle.write_trace.specs.Answers.{ReaderState, ReadsEntry}
use Rattle.sidefile.specs.declared.look.Look.{Look}
use Rattle.sidefile.specs.declared.look.Look.TheVariants as looks
use Rattle.sidefile.specs.Looks.{FindsNext, IsEntryTo, ReadsAllEntries, EndsAfter, FailsAfter, have_stamp, AddsWrites, TakesRun}
use Rattle.sidefile.proofs.Steps.{reads_all, ends_there, bad_there, fails_there, none_read, read_then, ends_then, fails_then, writes_then}

-- ---- what a test of two stamps says

not_false : (b : Bool) → false ≡ not b → b ≡ true
not_false true e = refl
not_false false e = absurd cc

not_true : (b : Bool) → true ≡ not b → b ≡ false
not_true true e = absurd cc
not_true false e = refl

pub same_number : (a b c : ℕ) → a ≡ c → false ≡ not (nat_eq a b) → c ≡ b
same_number a b c is e = sym is ∙ eqb-true a b (not_false (nat_eq a b) e)

pub other_number : (a b c : ℕ) → a ≡ c → true ≡ not (nat_eq a b) → c ≢ b
other_number a b c is e same = let t : nat_eq a b ≡ true = eq-eqb a b (is ∙ same) in let f = not_true (nat_eq a b) e in absurd cc

-- ---- what is known of an entry that was read

both_true : (a b : Bool) → (a && b) ≡ true → (a ≡ true) × (b ≡ true)
both_true true b e = (refl, e)
both_true false b e = absurd cc

and_true : (a b : Bool) → a ≡ true → b ≡ true → (a && b) ≡ true
and_true true b e f = f
and_true false b e f = absurd cc

kind_keeps : (kind : Kind) → is_kind kind ≡ true → keeps_rules kind ≡ true
kind_keeps (Update number bytes) e = e
kind_keeps (Format after recs) e = e
kind_keeps (Whole track) e = refl

stamp_from : (last stamp : ℕ) → is_stamp_from last stamp ≡ true → (1 ≤ stamp) × (last ≤ stamp)
stamp_from last stamp e =
    let outer = both_true (nat_le 1 stamp && nat_le last stamp) (nat_lt stamp (2 ^ 64)) e in
    let inner = both_true (nat_le 1 stamp) (nat_le last stamp) outer.0 in
    (leb-true 1 stamp inner.0, leb-true last stamp inner.1)

pub entry_kept : (volumes : List VolumeHead) (last : ℕ) (e : Entry) → is_entry volumes last e ≡ true → IsEntryTo volumes e × (last ≤ stamp_of e)
entry_kept volumes last (Idle stamp) e = let s = stamp_from last stamp.0 e in ((s.0, All-nil (IsWriteTo volumes)), s.1)
entry_kept volumes last (Written w) e =
    let outer = both_true (is_stamp_from last w.stamp.0 && is_track_of volumes w.volume w.track) (is_kind w.kind) e in
    let inner = both_true (is_stamp_from last w.stamp.0) (is_track_of volumes w.volume w.track) outer.0 in
    let s = stamp_from last w.stamp.0 inner.0 in
    let to : IsWriteTo volumes w = and_true (is_track_of volumes w.volume w.track) (keeps_rules w.kind) inner.1 (kind_keeps w.kind outer.1) in
    ((s.0, All-cons (IsWriteTo volumes) w [] to (All-nil (IsWriteTo volumes))), s.1)

pub writes_append : (xs ys : List Entry) → writes_of (xs ++ ys) ≡ writes_of xs ++ writes_of ys
writes_append [] ys = refl
writes_append (Written w ∷ xs) ys = ap (λ (t : List Write). w ∷ t) (writes_append xs ys)
writes_append (Idle stamp ∷ xs) ys = writes_append xs ys

-- ---- the entries so far

pub record Collected (before now : Option (List ℕ)) (faults risen : ℕ) (old new : ReaderState) (stamp : ℕ) (first all : List Write) : Type 0 where
  pub taken : List Entry
  pub stamps : IsTrue (have_stamp stamp taken)
  pub kept : All (IsWriteTo old.volumes) (writes_of taken)
  pub writes : all ≡ first ++ writes_of taken
  pub room : length all ≤ WRITES_OF_RUN
  pub volumes : new.volumes ≡ old.volumes
  pub last : new.last ≡ stamp
  pub goes_on : new.stopped ≡ None
  pub same_count : risen ≡ faults
  pub reads : ReadsAllEntries before now old new taken

pub collected_none : (told : Option (List ℕ)) (faults : ℕ) (r : ReaderState) (stamp : ℕ) (first : List Write) → length first ≤ WRITES_OF_RUN → r.last ≡ stamp → r.stopped ≡ None → Collected told told faults faults r r stamp first first
collected_none told faults r stamp first room last goes = record {
  taken = [];
  stamps = refl;
  kept = All-nil (IsWriteTo r.volumes);
  writes = sym (append-nil first);
  room = room;
  volumes = refl;
  last = last;
  goes_on = goes;
  same_count = refl;
  reads = none_read told r;
}

module _ {a b c : Option (List ℕ)} {f1 f2 : ℕ} {r0 r1 r2 : ReaderState} {stamp : ℕ} {first all : List Write} (h : Collected a b f1 f2 r0 r1 stamp first all) where
  -- what was taken with one more entry
  reads_more : (e : Entry) → ReadsEntry b c r1 r2 e → ReadsAllEntries a c r0 r2 (h.taken ++ e ∷ [])
  reads_more e reads = read_then a b c r0 r1 r2 h.taken (e ∷ []) h.reads (reads_all b c r1 r2 e h.goes_on reads)

  kept_more : (e : Entry) → ReadsEntry b c r1 r2 e → IsEntryTo r0.volumes e × (stamp ≤ stamp_of e)
  kept_more e reads = let k = entry_kept r1.volumes r1.last e reads.kept in
      (subst (λ (v : List VolumeHead). IsEntryTo v e) h.volumes k.0, subst (λ n. n ≤ stamp_of e) h.last k.1)

module _ {a b c : Option (List ℕ)} {f1 f2 f3 : ℕ} {r0 r1 r2 : ReaderState} {stamp : ℕ} {first all : List Write} (h : Collected a b f1 f2 r0 r1 stamp first all) where
  pub collected_more : (e : Entry) (more : List Write) → ReadsEntry b c r1 r2 e → stamp_of e ≡ stamp → more ≡ all ++ writes_of (e ∷ []) → length more ≤ WRITES_OF_RUN → f3 ≡ f2 → Collected a c f1 f3 r0 r2 stamp first more
  collected_more e more reads same is room count =
      let k = kept_more h e reads in record {
        taken = h.taken ++ e ∷ [];
        stamps = list_all-append (λ x. nat_eq (stamp_of x) stamp) h.taken (e ∷ [])
            ∙ and_true (have_stamp stamp h.taken) (have_stamp stamp (e ∷ [])) h.stamps (and_true (nat_eq (stamp_of e) stamp) true (eq-eqb (stamp_of e) stamp same) refl);
        kept = subst (λ (ws : List Write). All (IsWriteTo r0.volumes) ws) (sym (writes_append h.taken (e ∷ []))) (All-append (IsWriteTo r0.volumes) (writes_of h.taken) (writes_of (e ∷ [])) h.kept k.0.1);
        writes = is ∙ ap (λ (ws : List Write). ws ++ writes_of (e ∷ [])) h.writes ∙ append_assoc first (writes_of h.taken) (writes_of (e ∷ [])) ∙ ap (λ (ws : List Write). first ++ ws) (sym (writes_append h.taken (e ∷ [])));
        room = room;
        volumes = reads.volumes ∙ h.volumes;
        last = reads.last ∙ same;
        goes_on = reads.goes_on;
        same_count = count ∙ h.same_count;
        reads = reads_more h e reads;
      }

  -- an entry of another stamp
  pub next_run : (e : Entry) → ReadsEntry b c r1 r2 e → stamp_of e ≢ stamp → f3 ≡ f2 → TakesRun a c f1 f3 r0 r2 stamp first all (looks.Next e)
  next_run e reads other count =
      let k = kept_more h e reads in
      let above : stamp < stamp_of e = omega (arith, k.1, other) in record {
        taken = h.taken;
        stamps = h.stamps;
        kept = h.kept;
        writes = h.writes;
        room = h.room;
        volumes = reads.volumes ∙ h.volumes;
        found = (reads_more h e reads, k.0, above, reads.last, reads.goes_on, count ∙ h.same_count);
      }

  -- no entry
  pub run_ends : (look : Look) → ((e : Entry) → look ≡ looks.Next e → ⊥) → FindsNext b c f2 f3 r1 r2 look → TakesRun a c f1 f3 r0 r2 stamp first all look
  run_ends (looks.Next e) other finds = absurd (other e refl)
  run_ends looks.Ended other finds = record {
    taken = h.taken;
    stamps = h.stamps;
    kept = h.kept;
    writes = h.writes;
    room = h.room;
    volumes = finds.1.volumes ∙ h.volumes;
    found = (subst (λ (es : List Entry). EndsAfter a r0 es None) (append-nil h.taken) (ends_then a b r0 r1 h.taken [] None h.reads (ends_there b r1 h.goes_on finds.0)), finds.1.stopped, finds.2 ∙ h.same_count);
  }
  run_ends (looks.Bad (BadTrace place)) other finds = record {
    taken = h.taken;
    stamps = h.stamps;
    kept = h.kept;
    writes = h.writes;
    room = h.room;
    volumes = finds.2.volumes ∙ h.volumes;
    found = (subst (λ (es : List Entry). EndsAfter a r0 es (Some (BadTrace place))) (append-nil h.taken) (ends_then a b r0 r1 h.taken [] (Some (BadTrace place)) h.reads (bad_there b r1 place h.goes_on finds.0 finds.1)), finds.3 ∙ h.same_count);
  }
  run_ends (looks.Bad ReadFault) other finds = record {
    taken = h.taken;
    stamps = h.stamps;
    kept = h.kept;
    writes = h.writes;
    room = h.room;
    volumes = finds.1.volumes ∙ h.volumes;
    found = (subst (λ (es : List Entry). FailsAfter a c r0 es) (append-nil h.taken) (fails_then a b c r0 r1 h.taken [] h.reads (fails_there b c r1 r2 finds.0)), subst (λ n. Rose n f3) h.same_count finds.2);
  }
  run_ends (looks.Bad (Crowded s)) other finds = absurd finds
  run_ends looks.NoMemory other finds = record {
    taken = h.taken;
    stamps = h.stamps;
    kept = h.kept;
    writes = h.writes;
    room = h.room;
    volumes = finds.0.volumes ∙ h.volumes;
    found = finds.1 ∙ h.same_count;
  }

  -- an entry whose write was not put
  pub not_put : (e : Entry) (more : List Write) (look : Look) → ReadsEntry b c r1 r2 e → stamp_of e ≡ stamp → AddsWrites all more e (Err look) → f3 ≡ f2 → TakesRun a c f1 f3 r0 r2 stamp first more look
  not_put e more (looks.Next x) reads same put count = absurd put
  not_put e more looks.Ended reads same put count = absurd put
  not_put e more (looks.Bad (BadTrace place)) reads same put count = absurd put
  not_put e more (looks.Bad ReadFault) reads same put count = absurd put
  not_put e more (looks.Bad (Crowded s)) reads same put count =
      let (is, full, (w, written, at)) = put in
      let stamped : w.stamp.0 ≡ stamp = ap stamp_of (sym written) ∙ same in record {
        taken = h.taken;
        stamps = h.stamps;
        kept = h.kept;
        writes = is ∙ h.writes;
        room = subst (λ (ws : List Write). length ws ≤ WRITES_OF_RUN) (sym is) h.room;
        volumes = reads.volumes ∙ h.volumes;
        found = (
          ap (λ (x : Stamp). x.0) (sym at) ∙ stamped,
          ap length is ∙ full,
          writes_then a c r0 r2 h.taken w stamp (subst (λ (x : Entry). ReadsAllEntries a c r0 r2 (h.taken ++ x ∷ [])) written (reads_more h e reads)) stamped,
          count ∙ h.same_count,
        );
      }
  not_put e more looks.NoMemory reads same put count = record {
    taken = h.taken;
    stamps = h.stamps;
    kept = h.kept;
    writes = put ∙ h.writes;
    room = subst (λ (ws : List Write). length ws ≤ WRITES_OF_RUN) (sym put) h.room;
    volumes = reads.volumes ∙ h.volumes;
    found = count ∙ h.same_count;
  }
