-- The kernel that the program brings along.
use Rattle.std.specs.Prelude.{ℕ, List, [], ◌∷◌, codes}
use Rattle.lx_generate.specs.Lines.{text_of}

-- its text, as IR
unfoldable pub kernel_text : List ℕ
kernel_text = text_of (
    codes "%struct.device = type { ptr, i64, ptr }" ∷
    codes "%struct.dev_ops = type { ptr, ptr }" ∷
    codes "@lock = global i32 0" ∷
    codes "@ndevs = global i64 0" ∷
    codes "@devs = global [8 x %struct.device] zeroinitializer" ∷
    codes "declare ptr @k.alloc(i64)" ∷
    codes "declare void @k.free(ptr)" ∷
    codes "declare void @k.zero(ptr, i64)" ∷
    codes "declare i32 @k.try_lock(ptr)" ∷
    codes "declare void @k.note(i64)" ∷
    codes "declare i32 @k.slot.probe(ptr, ptr)" ∷
    codes "declare i32 @k.slot.xmit(ptr, ptr, ptr)" ∷
    codes "define ptr @kmalloc(i64 %n) {" ∷
    codes "a:" ∷
    codes "  %d = sub i64 %n, 1" ∷
    codes "  %ok = icmp ult i64 %d, 1048560" ∷
    codes "  br i1 %ok, label %b, label %none" ∷
    codes "b:" ∷
    codes "  %m = add i64 %n, 16" ∷
    codes "  %p = call ptr @k.alloc(i64 %m)" ∷
    codes "  %z = icmp eq ptr %p, null" ∷
    codes "  br i1 %z, label %none, label %c" ∷
    codes "c:" ∷
    codes "  store i64 %n, ptr %p" ∷
    codes "  %u = getelementptr i8, ptr %p, i64 16" ∷
    codes "  ret ptr %u" ∷
    codes "none:" ∷
    codes "  ret ptr null" ∷
    codes "}" ∷
    codes "define ptr @kzalloc(i64 %n) {" ∷
    codes "a:" ∷
    codes "  %p = call ptr @kmalloc(i64 %n)" ∷
    codes "  %z = icmp eq ptr %p, null" ∷
    codes "  br i1 %z, label %c, label %b" ∷
    codes "b:" ∷
    codes "  call void @k.zero(ptr %p, i64 %n)" ∷
    codes "  br label %c" ∷
    codes "c:" ∷
    codes "  ret ptr %p" ∷
    codes "}" ∷
    codes "define void @kfree(ptr %p) {" ∷
    codes "a:" ∷
    codes "  %z = icmp eq ptr %p, null" ∷
    codes "  br i1 %z, label %c, label %b" ∷
    codes "b:" ∷
    codes "  %h = getelementptr i8, ptr %p, i64 -16" ∷
    codes "  call void @k.free(ptr %h)" ∷
    codes "  br label %c" ∷
    codes "c:" ∷
    codes "  ret void" ∷
    codes "}" ∷
    codes "define ptr @dev_register(ptr %ops) {" ∷
    codes "a:" ∷
    codes "  br label %l" ∷
    codes "l:" ∷
    codes "  %g = call i32 @k.try_lock(ptr @lock)" ∷
    codes "  %t = icmp eq i32 %g, 0" ∷
    codes "  br i1 %t, label %l, label %b" ∷
    codes "b:" ∷
    codes "  %n = load i64, ptr @ndevs" ∷
    codes "  %f = icmp ult i64 %n, 8" ∷
    codes "  br i1 %f, label %c, label %e" ∷
    codes "c:" ∷
    codes "  %dv = getelementptr %struct.device, ptr @devs, i64 %n" ∷
    codes "  store ptr %ops, ptr %dv" ∷
    codes "  %ip = getelementptr %struct.device, ptr %dv, i64 0, i32 1" ∷
    codes "  store i64 %n, ptr %ip" ∷
    codes "  %n1 = add i64 %n, 1" ∷
    codes "  store i64 %n1, ptr @ndevs" ∷
    codes "  br label %e" ∷
    codes "e:" ∷
    codes "  %r = phi ptr [ null, %b ], [ %dv, %c ]" ∷
    codes "  store i32 0, ptr @lock" ∷
    codes "  ret ptr %r" ∷
    codes "}" ∷
    codes "define void @dev_set_priv(ptr %dev, ptr %v) {" ∷
    codes "a:" ∷
    codes "  %p = getelementptr %struct.device, ptr %dev, i64 0, i32 2" ∷
    codes "  store ptr %v, ptr %p" ∷
    codes "  ret void" ∷
    codes "}" ∷
    codes "define void @dev_zero(ptr %p, i64 %n) {" ∷
    codes "a:" ∷
    codes "  call void @k.zero(ptr %p, i64 %n)" ∷
    codes "  ret void" ∷
    codes "}" ∷
    codes "define void @dev_wipe(ptr %p, i64 %n) {" ∷
    codes "a:" ∷
    codes "  call void @k.zero(ptr %p, i64 %n)" ∷
    codes "  ret void" ∷
    codes "}" ∷
    codes "define ptr @skb_new(i64 %n) {" ∷
    codes "a:" ∷
    codes "  %s = call ptr @kmalloc(i64 24)" ∷
    codes "  %z = icmp eq ptr %s, null" ∷
    codes "  br i1 %z, label %no, label %b" ∷
    codes "b:" ∷
    codes "  %d = call ptr @kmalloc(i64 %n)" ∷
    codes "  %y = icmp eq ptr %d, null" ∷
    codes "  br i1 %y, label %u, label %c" ∷
    codes "c:" ∷
    codes "  store ptr %d, ptr %s" ∷
    codes "  %q = getelementptr i8, ptr %s, i64 8" ∷
    codes "  store i64 %n, ptr %q" ∷
    codes "  ret ptr %s" ∷
    codes "u:" ∷
    codes "  call void @kfree(ptr %s)" ∷
    codes "  br label %no" ∷
    codes "no:" ∷
    codes "  ret ptr null" ∷
    codes "}" ∷
    codes "define i32 @netif_rx(ptr %s) {" ∷
    codes "a:" ∷
    codes "  %q = getelementptr i8, ptr %s, i64 8" ∷
    codes "  %n = load i64, ptr %q" ∷
    codes "  call void @k.note(i64 %n)" ∷
    codes "  ret i32 0" ∷
    codes "}" ∷
    codes "define ptr @hook_get() {" ∷
    codes "a:" ∷
    codes "  ret ptr @hook_fn" ∷
    codes "}" ∷
    codes "define i64 @hook_fn(i64 %x) {" ∷
    codes "a:" ∷
    codes "  %y = add i64 %x, 1" ∷
    codes "  ret i64 %y" ∷
    codes "}" ∷
    codes "define i32 @do_probe(i64 %i) {" ∷
    codes "a:" ∷
    codes "  %d = getelementptr %struct.device, ptr @devs, i64 %i" ∷
    codes "  %o = load ptr, ptr %d" ∷
    codes "  %r = call i32 @k.slot.probe(ptr %o, ptr %d)" ∷
    codes "  ret i32 %r" ∷
    codes "}" ∷
    codes "define i32 @do_xmit(i64 %i, ptr %s) {" ∷
    codes "a:" ∷
    codes "  %d = getelementptr %struct.device, ptr @devs, i64 %i" ∷
    codes "  %o = load ptr, ptr %d" ∷
    codes "  %x = getelementptr %struct.dev_ops, ptr %o, i64 0, i32 1" ∷
    codes "  %r = call i32 @k.slot.xmit(ptr %x, ptr %s, ptr %d)" ∷
    codes "  ret i32 %r" ∷
    codes "}" ∷ [])
