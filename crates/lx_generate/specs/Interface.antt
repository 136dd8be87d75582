-- The interface of the kernel that the program brings along.
use Rattle.std.specs.Prelude.{ℕ, List, [], ◌∷◌, codes}
use Rattle.lx_generate.specs.Lines.{text_of}

-- its text
unfoldable pub interface_text : List ℕ
interface_text = text_of (
    codes "interface 1" ∷
    codes "reftype device" ∷
    codes "iterator skb_caps(p) { write p, 24; write load64(p), load64(p + 8) }" ∷
    codes "slot probe : i32 (ptr dev) principal(dev) pre(copy(ref(device), dev)) post(if (return < 0) transfer(ref(device), dev))" ∷
    codes "slot xmit : i32 (ptr skb, ptr dev) principal(dev) pre(transfer(skb_caps(skb))) post(if (return < 0) transfer(skb_caps(skb)))" ∷
    codes "field %struct.dev_ops 0 : probe" ∷
    codes "field %struct.dev_ops 1 : xmit" ∷
    codes "export kmalloc : ptr (i64 n) post(if (return != 0) transfer(write, return, n))" ∷
    codes "export kzalloc : ptr (i64 n) post(if (return != 0) transfer(write, return, n))" ∷
    codes "export kfree : void (ptr p) pre(if (p != 0) transfer(write, p, load64(p - 16)))" ∷
    codes "export dev_register : ptr (ptr ops)" ∷
    codes "export dev_set_priv : void (ptr dev, ptr v) pre(check(ref(device), dev))" ∷
    codes "export dev_zero : void (ptr p, i64 n) pre(check(write, p, n))" ∷
    codes "export dev_wipe : void (ptr p, i64 n) pre(transfer(write, p, n)) post(transfer(write, p, n))" ∷
    codes "export skb_new : ptr (i64 n) post(if (return != 0) transfer(write, return, 24)) post(if (return != 0) transfer(write, load64(return), n))" ∷
    codes "export netif_rx : i32 (ptr skb) pre(transfer(skb_caps(skb)))" ∷
    codes "export hook_get : ptr () post(copy(call, return))" ∷
    codes "export hook_fn : i64 (i64 x)" ∷ [])
