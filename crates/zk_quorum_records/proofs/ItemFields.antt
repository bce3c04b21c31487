-- Items: reading is the inverse of writing, and what is read of a prefix stays.
use Rattle.std.proofs.Common.{◌≡◌, ℕ, List, ◌++◌, Ok, refl, sym, ap, subst, ◌∙◌}
use Rattle.zk_jute.specs.Reading.{count_at, made_of}
use Rattle.zk_jute.proofs.Numbers.{TakesFront, made_takes}
use Rattle.zk_snapshot.specs.Snapshots.{lease, access, IsLease, IsAccess}
use Rattle.zk_snapshot.specs.Reading.{lease_at, access_at}
use Rattle.zk_quorum_records.specs.declared.item.Item.{Item}
use Rattle.zk_quorum_records.specs.declared.item.Item.TheVariants as items
use Rattle.zk_quorum_records.specs.declared.item.Phase.{Phase}
use Rattle.zk_quorum_records.specs.declared.item.Phase.TheVariants as phases
use Rattle.zk_quorum_records.specs.Elections.{hello, notification, IsHello, IsNotification}
use Rattle.zk_quorum_records.specs.Items.{bytes_of, count, IsCount, IsItem, IsMade}
use Rattle.zk_quorum_records.specs.Packets.{packet, IsPacket}
use Rattle.zk_quorum_records.specs.Reading.{Reader, item_at, packet_at, hello_at, notification_at}
use Rattle.zk_quorum_records.proofs.Steady.{made_steady}
use Rattle.zk_quorum_records.proofs.Fields.{IsSound, packet_sound}
use Rattle.zk_quorum_records.proofs.TreeFields.{count_sound, lease_sound, access_sound, step_sound, signature_sound}
use Rattle.zk_quorum_records.proofs.ElectionFields.{hello_sound, notification_sound}

kind_sound : {A : Type 0} (read : Reader A) (spell : A → List ℕ) (Fits : A → Type 0) (make : A → Item) → IsSound read spell Fits → ((a : A) → bytes_of (make a) ≡ spell a) → IsSound (λ bytes. made_of make (read bytes)) bytes_of (IsMade make Fits)
kind_sound {A} read spell Fits make sound spelled = record {
  field = record {
    takes = λ bytes x fits e.
        made_takes read spell Fits sound.field make bytes x (λ (y : Item × List ℕ). TakesFront bytes (bytes_of y.0) y.1 × IsMade make Fits y.0) fits e
        (λ a rest took is. (subst (λ (l : List ℕ). TakesFront bytes l rest) (sym (spelled a)) took, (a, (refl, is))));
    again = λ item rest is.
        ap (λ (it : Item). made_of make (read (bytes_of it ++ rest))) is.1.0 ∙ ap (λ (l : List ℕ). made_of make (read (l ++ rest))) (spelled is.0)
        ∙ ap (made_of make) (sound.field.again is.0 rest is.1.1) ∙ ap (λ (it : Item). Ok (it, rest)) (sym is.1.0);
  };
  steady = made_steady read make sound.steady;
}

pub item_sound : (phase : Phase) → IsSound (item_at phase) bytes_of (IsItem phase)
item_sound phases.Packets = kind_sound packet_at packet IsPacket items.Packet packet_sound (λ p. refl)
item_sound phases.SessionCount = kind_sound count_at count IsCount items.SessionCount count_sound (λ n. refl)
item_sound (phases.Sessions n) = kind_sound lease_at lease IsLease items.Session lease_sound (λ l. refl)
item_sound phases.AccessCount = kind_sound count_at count IsCount items.AccessCount count_sound (λ n. refl)
item_sound (phases.Accesses n) = kind_sound access_at access IsAccess items.Access access_sound (λ a. refl)
item_sound phases.Nodes = step_sound
item_sound phases.Signature = signature_sound
item_sound phases.Hello = kind_sound hello_at hello IsHello items.Hello hello_sound (λ h. refl)
item_sound phases.Notifications = kind_sound notification_at notification IsNotification items.Notification notification_sound (λ n. refl)
