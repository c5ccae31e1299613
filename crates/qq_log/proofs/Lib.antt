mod CarryLaws
mod StableLaws
