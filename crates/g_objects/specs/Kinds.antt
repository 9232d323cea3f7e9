-- Inner: what an object is to the machine, by its kind.
use Rattle.g_frames.specs.Contents as content
use Rattle.g_frames.specs.Contents.{Content}
use Rattle.g_objects.specs.declared.object.Kind.{Kind}
use Rattle.g_objects.specs.declared.object.Kind.TheVariants as kind

abbrev pub content_of : Kind → Content
content_of (kind.Panel s) = content.Panel s
content_of (kind.Queue s) = content.Queue s
content_of (kind.Cell s) = content.Cell s
content_of (kind.Pool s) = content.Pool s
