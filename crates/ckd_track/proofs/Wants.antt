-- Reading on lists is never short of memory.
use Rattle.std.proofs.Common.{◌≡◌, ℕ, zero, suc, ◌+◌, ◌-◌, Bool, true, false, cond, nat_lt, nat_le, List, Result, Ok, Err, length, take, drop}
use Rattle.std.specs.Prelude.{slice_index, slice_range}
use Rattle.std.specs.Int.{w16, from_be_bytes}
use Rattle.tod_stamp.specs.Fields.{◌>>=◌}
use Rattle.ckd_track.specs.declared.fault.ImageError.{ImageError}
use Rattle.ckd_track.specs.declared.fault.ImageError.TheVariants.{Short, TooBig, Order, NoMemory}
use Rattle.ckd_track.specs.declared.rec.Rec.{Rec}
use Rattle.ckd_track.specs.Tracks.{record_size, capacity}
use Rattle.ckd_track.specs.Reading.{rest_of_read}
use Rattle.ckd_track.specs.Images.{record_spelling, record_after_head, record_at, records_at, image_at}

-- an answer other than want of memory
pub record Never {A : Type 0} (read : Result A ImageError) : Type 0 where
  pub never : read ≡ Err NoMemory → ⊥

guard : {A : Type 0} (b : Bool) (d : ImageError) (x : Result A ImageError) → (d ≡ NoMemory → ⊥) → Never x → Never (cond b (Err d) x)
guard true d x other is = record { never = λ e. other cc }
guard false d x other is = is

then : {A B : Type 0} (r : Result A ImageError) (f : A → Result B ImageError) → Never r → ((x : A) → Never (f x)) → Never (r >>= f)
then (Ok x) f is each = each x
then (Err d) f is each = record { never = λ e. is.never cc }

read : {A : Type 0} (x : A) → Never (Ok x)
read x = record { never = λ e. cc }

after_head : (place last room number key_length content_length : ℕ) (bytes : List ℕ) → Never (record_after_head place last room number key_length content_length bytes)
unfolding record_after_head
after_head place last room number key_length content_length bytes =
    guard (nat_le number last) (Order place) _ (λ e. cc)
    (guard (nat_lt room (8 + key_length + content_length)) TooBig _ (λ e. cc)
    (guard (nat_lt (length bytes) (key_length + content_length)) Short _ (λ e. cc) (read _)))

one : (place last room : ℕ) (bytes : List ℕ) → Never (record_at place last room bytes)
unfolding record_at
one place last room bytes =
    guard (nat_lt (length bytes) 4) Short _ (λ e. cc) (after_head place last room (slice_index bytes 0) (slice_index bytes 1) (from_be_bytes w16 (slice_range bytes 2 4)) (drop 4 bytes))

many : (count place last room : ℕ) (bytes : List ℕ) → Never (records_at count place last room bytes)
unfolding records_at
many zero place last room bytes = read _
many (suc count) place last room bytes =
    then (record_at place last room bytes) _ (one place last room bytes) (λ first.
    then (records_at count (place + length (record_spelling first.0)) first.0.number (room - record_size first.0) first.1) _
    (many count (place + length (record_spelling first.0)) first.0.number (room - record_size first.0) first.1) (λ others. read _))

pub image_wants_nothing : (bytes : List ℕ) → Never (image_at bytes)
unfolding image_at
image_wants_nothing bytes =
    guard (nat_lt (length bytes) 2) Short _ (λ e. cc)
    (guard (nat_lt 255 (from_be_bytes w16 (take 2 bytes))) (Order 0) _ (λ e. cc) (many (from_be_bytes w16 (take 2 bytes)) 2 0 capacity (drop 2 bytes)))

-- so no reader that gives what reading gives is
pub refused_otherwise : (bytes : List ℕ) (d : ImageError) → rest_of_read (image_at bytes) ≡ Err d → d ≡ NoMemory → ⊥
refused_otherwise bytes d e is = choose (image_at bytes) (image_wants_nothing bytes) e
  where
    choose : (r : Result (List Rec × List ℕ) ImageError) → Never r → rest_of_read r ≡ Err d → ⊥
    choose (Ok x) never e = cc
    choose (Err x) never e = never.never cc
